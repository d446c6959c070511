-- Of a well-formed expression, with its mapped reads hoisted out of it: what is left is well formed, and so are the indices that are
-- read before.
use Rattle.std.proofs.Common.{◌≡◌, ◌≤◌, ◌<◌, ℕ, suc, Bool, true, false, ◌⊎◌, inl, inr, if◌then◌else◌, List, [], ◌∷◌, ◌++◌, Option, Some, None, refl, sym, subst, arith}
use Rattle.pgo_base.specs.Lookup.{Name, find}
use Rattle.pgo_base.specs.declared.expr.Infix.{Infix}
use Rattle.pgo_base.specs.declared.expr.Infix.TheVariants as op
use Rattle.pgo_base.specs.Tree.{Tree, name, primed, number, text, truth, at, word, unary, binary, product, cond_of, case_of, case_other, let_in, quantified, choose, tuple, set_of, filter_of, image, fun_of, fun_set, record_of, record_set, except, index, field, call, unchanged, Trees, no_trees, more_trees, NamedTrees, no_named, more_named, TreePairs, no_arms, more_arms, BoundTrees, no_bound, more_bound, PathTrees, no_paths, more_paths}
use Rattle.pgo_model.specs.Options.{on}
use Rattle.pgo_expr_write.specs.WellFormed.{is_word, is_member_of_word}
use Rattle.pgo_sections.specs.Access.{Mapped, MappedNames, place, MappedRead, Hoisted, pure, read_whole, read_element, index_tree, name_alone, if_element, if_whole, mapped_under, element_of, hoisted, hoisted_all, hoisted_arms, hoisted_fields, hoisted_let, hoisted_bound, hoisted_paths}
use Rattle.pgo_model.specs.Names.{is_among}
use Rattle.pgo_sections.specs.Bound.{names_of, names_bound, below}
use Rattle.pgo_sections.specs.Code.{Place, content_places, value_name}
use Rattle.pgo_written.specs.Formed.{Formed, AllFormed, SomeFormed, TwoFormed, NamedFormed, SomeNamedFormed, ArmsFormed, SomeArmsFormed, BoundFormed, SomeBoundFormed, PathsFormed, SomePathsFormed, RangeFormed}
use Rattle.pgo_written.specs.FormedCode.{IsBase, Alone, CodeFormed}
use Rattle.pgo_written.proofs.FormedTrees.{member_kept}

member_word : (p : Infix) (r : Tree) → is_member_of_word p r ≡ true → is_word r ≡ true
member_word op.In r e = e
member_word p r e = absurd (cc)

-- a mapped parameter whose blocks are well formed
pub record MappedFormed (m : Mapped) : Type 0 where
  pub global : IsBase m.global
  pub reads : CodeFormed content_places [] m.reads
  pub writes : CodeFormed content_places (value_name ∷ []) m.writes

abbrev pub AllMapped : MappedNames → Type 0
AllMapped mapped = (x : Name) (m : Mapped) → find x mapped ≡ Some m → MappedFormed m

-- what meets N may stand alone where the names of ws are bound, and so may the values of k places
pub record InScope (ps : List (Name × Place)) (N : Name → Type 0) (ws : List Name) (k : ℕ) : Type 0 where
  pub names : (x : Name) → N x → Alone ps ws x
  pub places : (j : ℕ) → j < k → is_among (place j) ws ≡ true

pub lower : (ps : List (Name × Place)) (N : Name → Type 0) (ws : List Name) (k l : ℕ) → k ≤ l → InScope ps N ws l → InScope ps N ws k
lower ps N ws k l h s = record { names = s.names; places = λ j g. s.places j (omega (arith, g, h)) }

module _ (mapped : MappedNames) (ps : List (Name × Place)) (N : Name → Type 0) where
  abbrev pub Scope : List Name → ℕ → Type 0
  Scope ws k = InScope ps N ws k

  -- ---- reads, from k places on
  pub record ReadWhole (k : ℕ) (b : MappedRead) (j : ℕ) : Type 0 where
    pub index : b.index ≡ None
    pub value : b.value ≡ place k
    pub next : j ≡ suc k

  pub record ReadElement (k : ℕ) (b : MappedRead) (j : ℕ) : Type 0 where
    pub tree : Tree
    pub index : b.index ≡ Some (place k, tree)
    pub formed : (ws : List Name) → Scope ws k → Formed (Alone ps ws) tree
    pub value : b.value ≡ place (suc k)
    pub next : j ≡ suc (suc k)

  abbrev pub ReadsFrom : ℕ → List MappedRead → ℕ → Type 0
  ReadsFrom k [] l = k ≡ l
  ReadsFrom k (b ∷ bs) l = (j : ℕ) × MappedFormed b.mapped × (ReadWhole k b j ⊎ ReadElement k b j) × ReadsFrom j bs l

  joined : (rs ss : List MappedRead) (k j l : ℕ) → ReadsFrom k rs j → ReadsFrom j ss l → ReadsFrom k (rs ++ ss) l
  joined [] ss k j l h g = subst (λ n. ReadsFrom n ss l) (sym h) g
  joined (b ∷ bs) ss k j l h g = (h.0, h.1, h.2, joined bs ss h.0 j l h.3 g)

  pub grows : (rs : List MappedRead) (k l : ℕ) → ReadsFrom k rs l → k ≤ l
  grows [] k l h = omega (arith, h)
  grows (b ∷ bs) k l h = let r = grows bs h.0 l h.3 in go h.2 r
    where
      go : (ReadWhole k b h.0 ⊎ ReadElement k b h.0) → h.0 ≤ l → k ≤ l
      go (inl w) r = let n = w.next in omega (arith, n, r)
      go (inr w) r = let n = w.next in omega (arith, n, r)

  -- ---- parts of an expression
  pub record Part (P : List Name → Type 0) (k : ℕ) (rs : List MappedRead) (l : ℕ) : Type 0 where
    pub formed : (ws : List Name) → Scope ws l → P ws
    pub reads : ReadsFrom k rs l

  nothing : (P : List Name → Type 0) (k : ℕ) → ((ws : List Name) → P ws) → Part P k [] k
  nothing P k h = record { formed = λ ws s. h ws; reads = refl }

  then_part : {P Q : List Name → Type 0} {k j l : ℕ} {rs ss : List MappedRead} → Part P k rs j → Part Q j ss l → Part (λ ws. P ws × Q ws) k (rs ++ ss) l
  then_part {P} {Q} {k} {j} {l} {rs} {ss} p q = record {
    formed = λ ws s. (p.formed ws (lower ps N ws j l (grows ss j l q.reads) s), q.formed ws s);
    reads = joined rs ss k j l p.reads q.reads;
  }

  made_of : {P Q : List Name → Type 0} {k l : ℕ} {rs : List MappedRead} → ((ws : List Name) → P ws → Q ws) → Part P k rs l → Part Q k rs l
  made_of f p = record { formed = λ ws s. f ws (p.formed ws s); reads = p.reads }

  -- and no more
  last : {P Q : List Name → Type 0} {k l : ℕ} {rs : List MappedRead} → ((ws : List Name) → P ws → Q ws) → Part P k rs l → Part Q k (rs ++ []) l
  last {P} {Q} {k} {l} {rs} f p = record { formed = λ ws s. f ws (p.formed ws s); reads = joined rs [] k l l p.reads refl }

  module _ (ok : AllMapped mapped) where
    abbrev F : (List Name) → Tree → Type 0
    F ws t = Formed (Alone ps ws) t

    abbrev By : Name → ℕ → Option Mapped → Type 0
    By x k o = Part (λ ws. F ws (on (pure k (name x)) o (λ m. read_whole m k)).rest) k (on (pure k (name x)) o (λ m. read_whole m k)).reads (on (pure k (name x)) o (λ m. read_whole m k)).used

    -- ---- a name
    name_part : (u : List Name) (x : Name) (k : ℕ) → N x → Part (λ ws. F ws (hoisted mapped u (name x) k).rest) k (hoisted mapped u (name x) k).reads (hoisted mapped u (name x) k).used
    name_part u x k n = under (is_among x u)
      where
        stays : By x k None
        stays = record { formed = λ ws s. s.names x n; reads = refl }

        read : (m : Mapped) → MappedFormed m → By x k (Some m)
        read m f = record {
          formed = λ ws s. inr (inl (s.places k (omega arith)));
          reads = (suc k, f, inl (record { index = refl; value = refl; next = refl }), refl);
        }

        by : (m : Mapped) (b : Bool) → MappedFormed m → By x k (if b then None else Some m)
        by m true f = stays
        by m false f = read m f

        found : (o : Option Mapped) → find x mapped ≡ o → By x k (if_whole o)
        found None e = stays
        found (Some m) e = by m m.by_element (ok x m e)

        under : (b : Bool) → By x k (if_whole (if b then None else find x mapped))
        under true = stays
        under false = found (find x mapped) refl

    -- ---- an index
    element_formed : (u : List Name) (t : Tree) (m : Mapped) → element_of mapped u t ≡ Some m → MappedFormed m
    element_formed u t m h = alone (name_alone t) h
      where
        by : (q : Mapped) (b : Bool) → MappedFormed q → (if b then Some q else None) ≡ Some m → MappedFormed m
        by q true f e = let same : q ≡ m = cc in subst MappedFormed same f
        by q false f e = absurd (cc)

        found : (x : Name) (o : Option Mapped) → find x mapped ≡ o → if_element o ≡ Some m → MappedFormed m
        found x None f e = absurd (cc)
        found x (Some q) f e = by q q.by_element (ok x q f) e

        under : (x : Name) (b : Bool) → if_element (if b then None else find x mapped) ≡ Some m → MappedFormed m
        under x true e = absurd (cc)
        under x false e = found x (find x mapped) refl e

        alone : (o : Option Name) → on None o (λ x. if_element (mapped_under mapped u x)) ≡ Some m → MappedFormed m
        alone None e = absurd (cc)
        alone (Some x) e = under x (is_among x u) e

    index_formed : (ws : List Name) (us : Trees) → SomeFormed (Alone ps ws) us → F ws (index_tree us)
    index_formed ws no_trees h = absurd h
    index_formed ws (more_trees t no_trees) h = h.0
    index_formed ws (more_trees t (more_trees v us)) h = h

    -- what an index becomes
    abbrev indexed : Tree → Trees → ℕ → Option Mapped → Hoisted Tree
    indexed f us j o = on (pure j (index f us)) o (λ m. read_element m (index_tree us) j)

    index_part : (f : Tree) (us : Trees) (k j : ℕ) (rs : List MappedRead) (o : Option Mapped) → ((m : Mapped) → o ≡ Some m → MappedFormed m) → Part (λ ws. SomeFormed (Alone ps ws) us) k rs j
        → Part (λ ws. F ws f → F ws (indexed f us j o).rest) k (rs ++ (indexed f us j o).reads) (indexed f us j o).used
    index_part f us k j rs None h p = last (λ ws q g. (g, q)) p
    index_part f us k j rs (Some m) h p = record {
      formed = λ ws s g. inr (inl (s.places (suc j) (omega arith)));
      reads =
          joined rs (record { mapped = m; index = Some (place j, index_tree us); value = place (suc j) } ∷ []) k j (suc (suc j)) p.reads
          (suc (suc j), h m refl, inr (record { tree = index_tree us; index = refl; formed = λ ws s. index_formed ws us (p.formed ws s); value = refl; next = refl }), refl);
    }

    -- ---- behind a `\in`
    word_part : (u : List Name) (r : Tree) (k : ℕ) → is_word r ≡ true → Part (λ ws. is_word (hoisted mapped u r k).rest ≡ true) k (hoisted mapped u r k).reads (hoisted mapped u r k).used
    word_part u (word w) k h = nothing (λ ws. true ≡ true) k (λ ws. refl)
    word_part u r k h = absurd (cc)

    abbrev TreePart : List Name → Tree → ℕ → Type 0
    TreePart u t k = Part (λ ws. F ws (hoisted mapped u t k).rest) k (hoisted mapped u t k).reads (hoisted mapped u t k).used

    range_part : (u : List Name) (r : Tree) (k : ℕ) → RangeFormed N r → (Formed N r → TreePart u r k)
        → Part (λ ws. RangeFormed (Alone ps ws) (hoisted mapped u r k).rest) k (hoisted mapped u r k).reads (hoisted mapped u r k).used
    range_part u r k (inl e) f = made_of (λ ws q. inl q) (word_part u r k e)
    range_part u r k (inr h) f = made_of (λ ws q. inr q) (f h)

    member_part : (u : List Name) (p : Infix) (r : Tree) (k : ℕ) → (is_member_of_word p r ≡ true) ⊎ Formed N r → (Formed N r → TreePart u r k)
        → Part (λ ws. (is_member_of_word p (hoisted mapped u r k).rest ≡ true) ⊎ F ws (hoisted mapped u r k).rest) k (hoisted mapped u r k).reads (hoisted mapped u r k).used
    member_part u p r k (inl e) f = made_of (λ ws q. inl (member_kept p r (hoisted mapped u r k).rest (λ w. q) e)) (word_part u r k (member_word p r e))
    member_part u p r k (inr h) f = made_of (λ ws q. inr q) (f h)

    abbrev Of : {A : Type 0} → (List Name → A → Type 0) → ℕ → Hoisted A → Type 0
    Of P k H = Part (λ ws. P ws H.rest) k H.reads H.used

    index_hoisted : (u : List Name) (f : Tree) (ts : Trees) (k : ℕ) → Of (λ ws t. Formed (Alone ps ws) t) k (hoisted mapped u f k) → Of (λ ws t. SomeFormed (Alone ps ws) t) (hoisted mapped u f k).used (hoisted_all mapped u ts (hoisted mapped u f k).used)
        → Of (λ ws t. Formed (Alone ps ws) t) k (hoisted mapped u (index f ts) k)
    index_hoisted u f ts k a b =
        let p = hoisted mapped u f k in
        let q = hoisted_all mapped u ts p.used in
        made_of (λ ws q. q.1 q.0) (then_part a (index_part p.rest q.rest p.used q.used q.reads (element_of mapped u f) (λ m e. element_formed u f m e) b))

    -- ---- all forms

    mutual
      pub hoist : (u : List Name) (t : Tree) (k : ℕ) → Formed N t → Of (λ ws t. Formed (Alone ps ws) t) k (hoisted mapped u t k)
      hoist u (name x) k h = name_part u x k h
      hoist u (primed x) k h = nothing (λ ws. Formed (Alone ps ws) (primed x)) k (λ ws. h)
      hoist u (number z) k h = nothing (λ ws. Formed (Alone ps ws) (number z)) k (λ ws. h)
      hoist u (text s) k h = nothing (λ ws. Formed (Alone ps ws) (text s)) k (λ ws. h)
      hoist u (truth b) k h = nothing (λ ws. Formed (Alone ps ws) (truth b)) k (λ ws. h)
      hoist u at k h = nothing (λ ws. Formed (Alone ps ws) at) k (λ ws. h)
      hoist u (word w) k h = nothing (λ ws. Formed (Alone ps ws) (word w)) k (λ ws. h)
      hoist u (unary o a) k h = last (λ ws q. q) (hoist u a k h)
      hoist u (binary o a b) k h =
          let k1 = (hoisted mapped u a k).used in
          made_of (λ ws q. (q.0, q.1)) (then_part (hoist u a k h.0) (last (λ ws q. q) (member_part u o b k1 h.1 (λ g. hoist u b k1 g))))
      hoist u (product ts) k h = last (λ ws q. q) (hoist_two u ts k h)
      hoist u (cond_of p a b) k h =
          let k1 = (hoisted mapped u p k).used in
          let k2 = (hoisted mapped u a k1).used in
          made_of (λ ws q. (q.0, q.1.0, q.1.1)) (then_part (hoist u p k h.0) (then_part (hoist u a k1 h.1) (last (λ ws q. q) (hoist u b k2 h.2))))
      hoist u (case_of gs) k h = last (λ ws q. q) (hoist_some_arms u gs k h)
      hoist u (case_other gs e) k h =
          let k1 = (hoisted_arms mapped u gs k).used in
          made_of (λ ws q. (q.0, q.1)) (then_part (hoist_some_arms u gs k h.0) (last (λ ws q. q) (hoist u e k1 h.1)))
      hoist u (let_in ds e) k h =
          let k1 = (hoisted_let mapped u ds k).used in
          made_of (λ ws q. (q.0, q.1)) (then_part (hoist_some_let u ds k h.0) (last (λ ws q. q) (hoist (below (names_of ds) u) e k1 h.1)))
      hoist u (quantified q bs p) k h =
          let k1 = (hoisted_bound mapped u bs k).used in
          made_of (λ ws q. (q.0, q.1)) (then_part (hoist_some_bound u bs k h.0) (last (λ ws q. q) (hoist (below (names_bound bs) u) p k1 h.1)))
      hoist u (choose x r p) k h =
          let k1 = (hoisted mapped u r k).used in
          made_of (λ ws q. (h.0, q.0, q.1)) (then_part (range_part u r k h.1 (λ g. hoist u r k g)) (last (λ ws q. q) (hoist (x ∷ u) p k1 h.2)))
      hoist u (tuple ts) k h = last (λ ws q. q) (hoist_all u ts k h)
      hoist u (set_of ts) k h = last (λ ws q. q) (hoist_all u ts k h)
      hoist u (filter_of x r p) k h =
          let k1 = (hoisted mapped u r k).used in
          made_of (λ ws q. (h.0, q.0, q.1)) (then_part (range_part u r k h.1 (λ g. hoist u r k g)) (last (λ ws q. q) (hoist (x ∷ u) p k1 h.2)))
      hoist u (image e x r) k h =
          let k1 = (hoisted mapped (x ∷ u) e k).used in
          made_of (λ ws q. (q.0, h.1, q.1)) (then_part (hoist (x ∷ u) e k h.0) (last (λ ws q. q) (range_part u r k1 h.2 (λ g. hoist u r k1 g))))
      hoist u (fun_of bs e) k h =
          let k1 = (hoisted_bound mapped u bs k).used in
          made_of (λ ws q. (q.0, q.1)) (then_part (hoist_some_bound u bs k h.0) (last (λ ws q. q) (hoist (below (names_bound bs) u) e k1 h.1)))
      hoist u (fun_set a b) k h =
          let k1 = (hoisted mapped u a k).used in
          made_of (λ ws q. (q.0, q.1)) (then_part (hoist u a k h.0) (last (λ ws q. q) (hoist u b k1 h.1)))
      hoist u (record_of ds) k h = last (λ ws q. q) (hoist_some_fields u ds k h)
      hoist u (record_set ds) k h = last (λ ws q. q) (hoist_some_fields u ds k h)
      hoist u (except f us) k h =
          let k1 = (hoisted mapped u f k).used in
          made_of (λ ws q. (q.0, q.1)) (then_part (hoist u f k h.0) (last (λ ws q. q) (hoist_some_paths u us k1 h.1)))
      hoist u (index f ts) k h = index_hoisted u f ts k (hoist u f k h.0) (hoist_some u ts (hoisted mapped u f k).used h.1)
      hoist u (field r x) k h = last (λ ws q. (q, h.1)) (hoist u r k h.0)
      hoist u (call x ts) k h = last (λ ws q. (h.0, q)) (hoist_some u ts k h.1)
      hoist u (unchanged xs) k h = nothing (λ ws. Formed (Alone ps ws) (unchanged xs)) k (λ ws. h)

      hoist_all : (u : List Name) (ts : Trees) (k : ℕ) → AllFormed N ts → Of (λ ws t. AllFormed (Alone ps ws) t) k (hoisted_all mapped u ts k)
      hoist_all u no_trees k h = nothing (λ ws. AllFormed (Alone ps ws) no_trees) k (λ ws. tt)
      hoist_all u (more_trees t ts) k h =
          let k1 = (hoisted mapped u t k).used in made_of (λ ws q. (q.0, q.1)) (then_part (hoist u t k h.0) (last (λ ws q. q) (hoist_all u ts k1 h.1)))

      hoist_some : (u : List Name) (ts : Trees) (k : ℕ) → SomeFormed N ts → Of (λ ws t. SomeFormed (Alone ps ws) t) k (hoisted_all mapped u ts k)
      hoist_some u no_trees k h = absurd h
      hoist_some u (more_trees t ts) k h =
          let k1 = (hoisted mapped u t k).used in made_of (λ ws q. (q.0, q.1)) (then_part (hoist u t k h.0) (last (λ ws q. q) (hoist_all u ts k1 h.1)))

      hoist_two : (u : List Name) (ts : Trees) (k : ℕ) → TwoFormed N ts → Of (λ ws t. TwoFormed (Alone ps ws) t) k (hoisted_all mapped u ts k)
      hoist_two u no_trees k h = absurd h
      hoist_two u (more_trees t ts) k h =
          let k1 = (hoisted mapped u t k).used in made_of (λ ws q. (q.0, q.1)) (then_part (hoist u t k h.0) (last (λ ws q. q) (hoist_some u ts k1 h.1)))

      hoist_fields : (u : List Name) (ds : NamedTrees) (k : ℕ) → NamedFormed N ds → Of (λ ws t. NamedFormed (Alone ps ws) t) k (hoisted_fields mapped u ds k)
      hoist_fields u no_named k h = nothing (λ ws. NamedFormed (Alone ps ws) no_named) k (λ ws. tt)
      hoist_fields u (more_named x t ts) k h =
          let k1 = (hoisted mapped u t k).used in made_of (λ ws q. (h.0, q.0, q.1)) (then_part (hoist u t k h.1) (last (λ ws q. q) (hoist_fields u ts k1 h.2)))

      hoist_some_fields : (u : List Name) (ds : NamedTrees) (k : ℕ) → SomeNamedFormed N ds → Of (λ ws t. SomeNamedFormed (Alone ps ws) t) k (hoisted_fields mapped u ds k)
      hoist_some_fields u no_named k h = absurd h
      hoist_some_fields u (more_named x t ts) k h =
          let k1 = (hoisted mapped u t k).used in made_of (λ ws q. (h.0, q.0, q.1)) (then_part (hoist u t k h.1) (last (λ ws q. q) (hoist_fields u ts k1 h.2)))

      hoist_let : (u : List Name) (ds : NamedTrees) (k : ℕ) → NamedFormed N ds → Of (λ ws t. NamedFormed (Alone ps ws) t) k (hoisted_let mapped u ds k)
      hoist_let u no_named k h = nothing (λ ws. NamedFormed (Alone ps ws) no_named) k (λ ws. tt)
      hoist_let u (more_named x t ts) k h =
          let k1 = (hoisted mapped u t k).used in made_of (λ ws q. (h.0, q.0, q.1)) (then_part (hoist u t k h.1) (last (λ ws q. q) (hoist_let (x ∷ u) ts k1 h.2)))

      hoist_some_let : (u : List Name) (ds : NamedTrees) (k : ℕ) → SomeNamedFormed N ds → Of (λ ws t. SomeNamedFormed (Alone ps ws) t) k (hoisted_let mapped u ds k)
      hoist_some_let u no_named k h = absurd h
      hoist_some_let u (more_named x t ts) k h =
          let k1 = (hoisted mapped u t k).used in made_of (λ ws q. (h.0, q.0, q.1)) (then_part (hoist u t k h.1) (last (λ ws q. q) (hoist_let (x ∷ u) ts k1 h.2)))

      hoist_arms : (u : List Name) (gs : TreePairs) (k : ℕ) → ArmsFormed N gs → Of (λ ws t. ArmsFormed (Alone ps ws) t) k (hoisted_arms mapped u gs k)
      hoist_arms u no_arms k h = nothing (λ ws. ArmsFormed (Alone ps ws) no_arms) k (λ ws. tt)
      hoist_arms u (more_arms g e gs) k h =
          let k1 = (hoisted mapped u g k).used in
          let k2 = (hoisted mapped u e k1).used in
          made_of (λ ws q. (q.0, q.1.0, q.1.1)) (then_part (hoist u g k h.0) (then_part (hoist u e k1 h.1) (last (λ ws q. q) (hoist_arms u gs k2 h.2))))

      hoist_some_arms : (u : List Name) (gs : TreePairs) (k : ℕ) → SomeArmsFormed N gs → Of (λ ws t. SomeArmsFormed (Alone ps ws) t) k (hoisted_arms mapped u gs k)
      hoist_some_arms u no_arms k h = absurd h
      hoist_some_arms u (more_arms g e gs) k h =
          let k1 = (hoisted mapped u g k).used in
          let k2 = (hoisted mapped u e k1).used in
          made_of (λ ws q. (q.0, q.1.0, q.1.1)) (then_part (hoist u g k h.0) (then_part (hoist u e k1 h.1) (last (λ ws q. q) (hoist_arms u gs k2 h.2))))

      hoist_bound : (u : List Name) (bs : BoundTrees) (k : ℕ) → BoundFormed N bs → Of (λ ws t. BoundFormed (Alone ps ws) t) k (hoisted_bound mapped u bs k)
      hoist_bound u no_bound k h = nothing (λ ws. BoundFormed (Alone ps ws) no_bound) k (λ ws. tt)
      hoist_bound u (more_bound xs r bs) k h =
          let k1 = (hoisted mapped u r k).used in made_of (λ ws q. (h.0, q.0, q.1)) (then_part (range_part u r k h.1 (λ g. hoist u r k g)) (last (λ ws q. q) (hoist_bound u bs k1 h.2)))

      hoist_some_bound : (u : List Name) (bs : BoundTrees) (k : ℕ) → SomeBoundFormed N bs → Of (λ ws t. SomeBoundFormed (Alone ps ws) t) k (hoisted_bound mapped u bs k)
      hoist_some_bound u no_bound k h = absurd h
      hoist_some_bound u (more_bound xs r bs) k h =
          let k1 = (hoisted mapped u r k).used in made_of (λ ws q. (h.0, q.0, q.1)) (then_part (range_part u r k h.1 (λ g. hoist u r k g)) (last (λ ws q. q) (hoist_bound u bs k1 h.2)))

      hoist_paths : (u : List Name) (us : PathTrees) (k : ℕ) → PathsFormed N us → Of (λ ws t. PathsFormed (Alone ps ws) t) k (hoisted_paths mapped u us k)
      hoist_paths u no_paths k h = nothing (λ ws. PathsFormed (Alone ps ws) no_paths) k (λ ws. tt)
      hoist_paths u (more_paths qs e us) k h =
          let k1 = (hoisted_all mapped u qs k).used in
          let k2 = (hoisted mapped u e k1).used in
          made_of (λ ws q. (q.0, q.1.0, q.1.1)) (then_part (hoist_some u qs k h.0) (then_part (hoist u e k1 h.1) (last (λ ws q. q) (hoist_paths u us k2 h.2))))

      hoist_some_paths : (u : List Name) (us : PathTrees) (k : ℕ) → SomePathsFormed N us → Of (λ ws t. SomePathsFormed (Alone ps ws) t) k (hoisted_paths mapped u us k)
      hoist_some_paths u no_paths k h = absurd h
      hoist_some_paths u (more_paths qs e us) k h =
          let k1 = (hoisted_all mapped u qs k).used in
          let k2 = (hoisted mapped u e k1).used in
          made_of (λ ws q. (q.0, q.1.0, q.1.1)) (then_part (hoist_some u qs k h.0) (then_part (hoist u e k1 h.1) (last (λ ws q. q) (hoist_paths u us k2 h.2))))

    pub range_hoist : (u : List Name) (r : Tree) (k : ℕ) → RangeFormed N r → Of (λ ws t. RangeFormed (Alone ps ws) t) k (hoisted mapped u r k)
    range_hoist u r k h = range_part u r k h (hoist u r k)
