-- Mapped occurrences hoisted out of an expression: what is left has well-formed names, and so have the indices before the reads.
use Rattle.std.proofs.Common.{◌≡◌, ◌<◌, ◌≤◌, ℕ, zero, suc, Bool, true, false, if◌then◌else◌, List, [], ◌∷◌, ◌++◌, replicate, Option, Some, None, refl, ap, sym, ◌∙◌, subst, inl, inr, arith}
use Rattle.std.specs.Prelude.{◌⊎◌}
use Rattle.pgo_base.specs.Lookup.{Name, same_name, find}
use Rattle.pgo_base.specs.Tree.{Tree, name, primed, number, text, truth, at, word, unary, binary, product, cond_of, case_of, case_other, let_in, quantified, choose, tuple, set_of, filter_of, image, fun_of, fun_set, record_of, record_set, except, index, field, call, unchanged, Trees, no_trees, more_trees, NamedTrees, no_named, more_named, TreePairs, no_arms, more_arms, BoundTrees, no_bound, more_bound, PathTrees, no_paths, more_paths}
use Rattle.pgo_model.specs.Options.{on}
use Rattle.pgo_model.specs.Written.{self_name}
use Rattle.pgo_scope.specs.Underscores.{has_double}
use Rattle.pgo_sections.specs.Access.{Mapped, MappedNames, place, MappedRead, Hoisted, pure, then_hoist, read_whole, index_tree, read_element, name_alone, if_element, if_whole, mapped_under, element_of, hoisted, hoisted_all, hoisted_arms, hoisted_fields, hoisted_let, hoisted_bound, hoisted_paths}
use Rattle.pgo_model.specs.Names.{is_among}
use Rattle.pgo_sections.specs.Bound.{names_of, names_bound, below}
use Rattle.pgo_sections.specs.Code.{Place}
use Rattle.pgo_sections.specs.Plain.{All, PlainAll, PlainArms, PlainFields, PlainLet, PlainBound, PlainPaths}
use Rattle.pgo_sections.specs.WellFormed.{NotMade, Bindable, Alone, Applied, PlainTree}
use Rattle.pgo_agrees.proofs.Names.{single}
use Rattle.pgo_agrees.proofs.Stands.{is_one, Stands, AllStand, ArmsStand, FieldsStand, LetStand, BoundStand, PathsStand, Meet, meet_one, meet_below, let_all, bound_all}

marks_single : (n : ℕ) → has_double (replicate n 35) ≡ false
marks_single zero = refl
marks_single (suc zero) = refl
marks_single (suc (suc n)) = marks_single (suc n)

pub place_single : (k : ℕ) → NotMade (place k)
place_single k = single (place k) (marks_single (suc k))

pub never : {A : Type 0} → false ≡ true → A
never e = absurd (cc)

-- ---- names that the code has bound
module _ (ns : List Name) (C : Name → Type 0) where
  -- these names are bound, with the values of k places; none of them is applied
  pub record InScope (ws : List Name) (k : ℕ) : Type 0 where
    pub names : (x : Name) → is_among x ns ≡ true → is_among x ws ≡ true
    pub places : (j : ℕ) → j < k → is_among (place j) ws ≡ true
    pub apart : (x : Name) → C x → is_among x ws ≡ false

  pub lower : (ws : List Name) (k l : ℕ) → k ≤ l → InScope ws l → InScope ws k
  lower ws k l h s = record { names = s.names; places = λ j g. s.places j (omega (arith, g, h)); apart = s.apart }

module _ (vs : List Name) (mapped : MappedNames) (ps : List (Name × Place)) (ns : List Name) (N : Bool → Bool → Name → Type 0) (C B : Name → Type 0) where
  -- what may be left alone: a name of a `with` in scope, a parameter or a local, or no variable
  abbrev pub Base : Name → Type 0
  Base x = NotMade x × ((is_among x ns ≡ true) ⊎ (((p : Place) × (find x ps ≡ Some p)) ⊎ (is_among x vs ≡ false)))

  pub record Hoistable : Type 0 where
    pub none : (h i : Bool) (x : Name) → N h i x → find x mapped ≡ None → Base x
    pub element : (h : Bool) (x : Name) (m : Mapped) → N h false x → find x mapped ≡ Some m → m.by_element ≡ true → Base x
    pub bound : (x : Name) → B x → Bindable vs x
    pub applied : (x : Name) → C x → NotMade x × (is_among x vs ≡ false) × (find x ps ≡ None) × (same_name x self_name ≡ false)

  abbrev pub Scope : List Name → ℕ → Type 0
  Scope ws k = InScope ns C ws k

  abbrev pub T : List Name → Tree → Type 0
  T ws t = PlainTree vs ps ws t

  -- ---- reads, from k places on
  pub record ReadWhole (k : ℕ) (b : MappedRead) (j : ℕ) : Type 0 where
    pub name : Name
    pub is : find name mapped ≡ Some b.mapped
    pub whole : b.mapped.by_element ≡ false
    pub index : b.index ≡ None
    pub value : b.value ≡ place k
    pub next : j ≡ suc k

  pub record ReadElement (k : ℕ) (b : MappedRead) (j : ℕ) : Type 0 where
    pub name : Name
    pub is : find name mapped ≡ Some b.mapped
    pub tree : Tree
    pub index : b.index ≡ Some (place k, tree)
    pub plain : (ws : List Name) → Scope ws k → T ws tree
    pub value : b.value ≡ place (suc k)
    pub next : j ≡ suc (suc k)

  abbrev pub ReadsFrom : ℕ → List MappedRead → ℕ → Type 0
  ReadsFrom k [] l = k ≡ l
  ReadsFrom k (b ∷ bs) l = (j : ℕ) × (ReadWhole k b j ⊎ ReadElement k b j) × ReadsFrom j bs l

  joined : (rs ss : List MappedRead) (k j l : ℕ) → ReadsFrom k rs j → ReadsFrom j ss l → ReadsFrom k (rs ++ ss) l
  joined [] ss k j l h g = subst (λ n. ReadsFrom n ss l) (sym h) g
  joined (b ∷ bs) ss k j l h g = (h.0, h.1, joined bs ss h.0 j l h.2 g)

  pub grows : (rs : List MappedRead) (k l : ℕ) → ReadsFrom k rs l → k ≤ l
  grows [] k l h = omega (arith, h)
  grows (b ∷ bs) k l h = let r = grows bs h.0 l h.2 in go h.1 r
    where
      go : (ReadWhole k b h.0 ⊎ ReadElement k b h.0) → h.0 ≤ l → k ≤ l
      go (inl w) r = let n = w.next in omega (arith, n, r)
      go (inr w) r = let n = w.next in omega (arith, n, r)

  -- ---- parts of an expression
  pub record Part (P : List Name → Type 0) (k : ℕ) (rs : List MappedRead) (l : ℕ) : Type 0 where
    pub plain : (ws : List Name) → Scope ws l → P ws
    pub reads : ReadsFrom k rs l

  nothing : (k : ℕ) → Part (λ ws. Unit {0}) k [] k
  nothing k = record { plain = λ ws s. tt; reads = refl }

  then_part : {P Q : List Name → Type 0} {k j l : ℕ} {rs ss : List MappedRead} → Part P k rs j → Part Q j ss l → Part (λ ws. P ws × Q ws) k (rs ++ ss) l
  then_part {P} {Q} {k} {j} {l} {rs} {ss} p q = record {
    plain = λ ws s. (p.plain ws (lower ns C ws j l (grows ss j l q.reads) s), q.plain ws s);
    reads = joined rs ss k j l p.reads q.reads;
  }

  made_of : {P Q : List Name → Type 0} {k l : ℕ} {rs : List MappedRead} → ((ws : List Name) → P ws → Q ws) → Part P k rs l → Part Q k rs l
  made_of f p = record { plain = λ ws s. f ws (p.plain ws s); reads = p.reads }

  module _ (ok : Hoistable) where
    base_alone : (ws : List Name) (k : ℕ) (x : Name) → Scope ws k → Base x → Alone vs ps ws x
    base_alone ws k x s h = (h.0, go h.1)
      where
        go : (is_among x ns ≡ true) ⊎ (((p : Place) × (find x ps ≡ Some p)) ⊎ (is_among x vs ≡ false)) → (is_among x ws ≡ true) ⊎ (((p : Place) × (find x ps ≡ Some p)) ⊎ (is_among x vs ≡ false))
        go (inl e) = inl (s.names x e)
        go (inr e) = inr e

    bound_base : (x : Name) → B x → Base x
    bound_base x b = let g = ok.bound x b in (g.0, inr (inr g.1))

    place_alone : (ws : List Name) (j l : ℕ) → j < l → Scope ws l → Alone vs ps ws (place j)
    place_alone ws j l h s = (place_single j, inl (s.places j h))

    all_bindable : (xs : List Name) → All B xs → All (Bindable vs) xs
    all_bindable [] h = tt
    all_bindable (x ∷ xs) h = (ok.bound x h.0, all_bindable xs h.1)

    applied_here : (ws : List Name) (k : ℕ) (x : Name) → Scope ws k → C x → Applied vs ps ws x
    applied_here ws k x s c = let a = ok.applied x c in (a.0, a.1, a.2, s.apart x c, a.3)

    -- ---- a name
    alone_part : (u : List Name) (h i : Bool) (x : Name) (k : ℕ) → Meet B u → (is_among x u ≡ true) ⊎ N h i x → (i ≡ true → element_of mapped u (name x) ≡ None)
        → Part (λ ws. T ws (hoisted mapped u (name x) k).rest) k (hoisted mapped u (name x) k).reads (hoisted mapped u (name x) k).used
    alone_part u h i x k m g e = go (is_among x u) refl g e
      where
        stays : Base x → Part (λ ws. T ws (name x)) k [] k
        stays b = record { plain = λ ws s. base_alone ws k x s b; reads = refl }

        read : (q : Mapped) → find x mapped ≡ Some q → q.by_element ≡ false → Part (λ ws. T ws (name (place k))) k (record { mapped = q; index = None; value = place k } ∷ []) (suc k)
        read q f w = record {
          plain = λ ws s. place_alone ws k (suc k) (omega arith) s;
          reads = (suc k, inl (record { name = x; is = f; whole = w; index = refl; value = refl; next = refl }), refl);
        }

        -- as it is mapped
        by : (i : Bool) (q : Mapped) (w : Bool) → q.by_element ≡ w → find x mapped ≡ Some q → N h i x → (i ≡ true → if_element (Some q) ≡ None)
            → Part (λ ws. T ws (on (pure k (name x)) (if w then None else Some q) (λ m. read_whole m k)).rest) k (on (pure k (name x)) (if w then None else Some q) (λ m. read_whole m k)).reads (on (pure k (name x)) (if w then None else Some q) (λ m. read_whole m k)).used
        by i q false w f n e = read q f w
        by true q true w f n e = absurd (let z : Some q ≡ None = ap (λ b. if b then Some q else None) (sym w) ∙ e refl in cc)
        by false q true w f n e = stays (ok.element h x q n f w)

        free : (o : Option Mapped) → find x mapped ≡ o → N h i x → (i ≡ true → if_element o ≡ None)
            → Part (λ ws. T ws (on (pure k (name x)) (if_whole o) (λ m. read_whole m k)).rest) k (on (pure k (name x)) (if_whole o) (λ m. read_whole m k)).reads (on (pure k (name x)) (if_whole o) (λ m. read_whole m k)).used
        free None f n e = stays (ok.none h i x n f)
        free (Some q) f n e = by i q q.by_element refl f n e

        outside : (is_among x u ≡ true) ⊎ N h i x → is_among x u ≡ false → N h i x
        outside (inl t) f = never (sym f ∙ t)
        outside (inr n) f = n

        go : (b : Bool) → is_among x u ≡ b → (is_among x u ≡ true) ⊎ N h i x → (i ≡ true → if_element (if is_among x u then None else find x mapped) ≡ None)
            → Part (λ ws. T ws (on (pure k (name x)) (if_whole (if is_among x u then None else find x mapped)) (λ m. read_whole m k)).rest) k (on (pure k (name x)) (if_whole (if is_among x u then None else find x mapped)) (λ m. read_whole m k)).reads (on (pure k (name x)) (if_whole (if is_among x u then None else find x mapped)) (λ m. read_whole m k)).used
        go true t g e =
            subst (λ b. Part (λ ws. T ws (on (pure k (name x)) (if_whole (if b then None else find x mapped)) (λ m. read_whole m k)).rest) k (on (pure k (name x)) (if_whole (if b then None else find x mapped)) (λ m. read_whole m k)).reads (on (pure k (name x)) (if_whole (if b then None else find x mapped)) (λ m. read_whole m k)).used) (sym t) (stays (bound_base x (m x t)))
        go false t g e =
            subst (λ b. Part (λ ws. T ws (on (pure k (name x)) (if_whole (if b then None else find x mapped)) (λ m. read_whole m k)).rest) k (on (pure k (name x)) (if_whole (if b then None else find x mapped)) (λ m. read_whole m k)).reads (on (pure k (name x)) (if_whole (if b then None else find x mapped)) (λ m. read_whole m k)).used) (sym t) (free (find x mapped) refl (outside g t) (λ q. subst (λ b. if_element (if b then None else find x mapped) ≡ None) t (e q)))

    -- ---- an index
    index_plain : (ws : List Name) (us : Trees) → PlainAll (Alone vs ps ws) (Applied vs ps ws) (Bindable vs) us → T ws (index_tree us)
    index_plain ws no_trees h = tt
    index_plain ws (more_trees t no_trees) h = h.0
    index_plain ws (more_trees t (more_trees v us)) h = h

    -- what an index on this expression reads is a mapped parameter by its elements
    record ElementIs (u : List Name) (t : Tree) (q : Mapped) : Type 0 where
      pub it : Name
      pub is : t ≡ name it
      pub free : is_among it u ≡ false
      pub mapped_so : find it mapped ≡ Some q
      pub by : q.by_element ≡ true

    element_is : (u : List Name) (t : Tree) (q : Mapped) → element_of mapped u t ≡ Some q → ElementIs u t q
    element_is u t q h = alone (name_alone t) refl h
      where
        named : (t : Tree) (x : Name) → name_alone t ≡ Some x → t ≡ name x
        named (name y) x e = ap name (let z : y ≡ x = cc in z)
        named (primed y) x e = absurd (cc)
        named (number y) x e = absurd (cc)
        named (text y) x e = absurd (cc)
        named (truth y) x e = absurd (cc)
        named at x e = absurd (cc)
        named (word y) x e = absurd (cc)
        named (unary o a) x e = absurd (cc)
        named (binary o a d) x e = absurd (cc)
        named (product ts) x e = absurd (cc)
        named (cond_of p a d) x e = absurd (cc)
        named (case_of gs) x e = absurd (cc)
        named (case_other gs d) x e = absurd (cc)
        named (let_in ds d) x e = absurd (cc)
        named (quantified q bs p) x e = absurd (cc)
        named (choose y r p) x e = absurd (cc)
        named (tuple ts) x e = absurd (cc)
        named (set_of ts) x e = absurd (cc)
        named (filter_of y r p) x e = absurd (cc)
        named (image d y r) x e = absurd (cc)
        named (fun_of bs d) x e = absurd (cc)
        named (fun_set a d) x e = absurd (cc)
        named (record_of ds) x e = absurd (cc)
        named (record_set ds) x e = absurd (cc)
        named (except f us) x e = absurd (cc)
        named (index f ts) x e = absurd (cc)
        named (field r y) x e = absurd (cc)
        named (call y ts) x e = absurd (cc)
        named (unchanged xs) x e = absurd (cc)

        by : (x : Name) (m : Mapped) (w : Bool) → m.by_element ≡ w → is_among x u ≡ false → find x mapped ≡ Some m → t ≡ name x → (if w then Some m else None) ≡ Some q → ElementIs u t q
        by x m true w f s n e = let z : m ≡ q = cc in record { it = x; is = n; free = f; mapped_so = s ∙ ap Some z; by = ap (λ (p : Mapped). p.by_element) (sym z) ∙ w }
        by x m false w f s n e = absurd (cc)

        found : (x : Name) (o : Option Mapped) → find x mapped ≡ o → is_among x u ≡ false → t ≡ name x → if_element o ≡ Some q → ElementIs u t q
        found x None s f n e = absurd (cc)
        found x (Some m) s f n e = by x m m.by_element refl f s n e

        under : (x : Name) (b : Bool) → is_among x u ≡ b → t ≡ name x → if_element (if b then None else find x mapped) ≡ Some q → ElementIs u t q
        under x true f n e = absurd (cc)
        under x false f n e = found x (find x mapped) refl f n e

        alone : (o : Option Name) → name_alone t ≡ o → on None o (λ x. if_element (mapped_under mapped u x)) ≡ Some q → ElementIs u t q
        alone None n e = absurd (cc)
        alone (Some x) n e = under x (is_among x u) refl (named t x n) e

    -- such a name is left as it is
    left_alone : (u : List Name) (x : Name) (q : Mapped) (k : ℕ) → is_among x u ≡ false → find x mapped ≡ Some q → q.by_element ≡ true → hoisted mapped u (name x) k ≡ pure k (name x)
    left_alone u x q k f s b =
        ap (λ c. on (pure k (name x)) (if_whole (if c then None else find x mapped)) (λ m. read_whole m k)) f
        ∙ ap (λ o. on (pure k (name x)) (if_whole o) (λ m. read_whole m k)) s
        ∙ ap (λ c. on (pure k (name x)) (if c then None else Some q) (λ m. read_whole m k)) b

    abbrev indexed : List Name → Trees → Option Mapped → Hoisted Tree → Hoisted Tree
    indexed u ts o H =
        then_hoist H (λ f' k1. then_hoist (hoisted_all mapped u ts k1) (λ us k2. on (pure k2 (index f' us)) o (λ m. read_element m (index_tree us) k2)))

    abbrev PartOf : ℕ → Hoisted Tree → Type 0
    PartOf k H = Part (λ ws. T ws H.rest) k H.reads H.used

    index_part : (u : List Name) (f : Tree) (ts : Trees) (k : ℕ) → (element_of mapped u f ≡ None → PartOf k (hoisted mapped u f k))
        → ((j : ℕ) → Part (λ ws. PlainAll (Alone vs ps ws) (Applied vs ps ws) (Bindable vs) (hoisted_all mapped u ts j).rest) j (hoisted_all mapped u ts j).reads (hoisted_all mapped u ts j).used)
        → (o : Option Mapped) → element_of mapped u f ≡ o → PartOf k (indexed u ts o (hoisted mapped u f k))
    index_part u f ts k p q None e = made_of (λ ws g. (g.0, g.1.0)) (then_part (p e) (then_part (q (hoisted mapped u f k).used) (nothing (hoisted_all mapped u ts (hoisted mapped u f k).used).used)))
    index_part u f ts k p q (Some m) e =
        let i = element_is u f m e in
        let same : hoisted mapped u f k ≡ pure k (name i.it) = ap (λ t. hoisted mapped u t k) i.is ∙ left_alone u i.it m k i.free i.mapped_so i.by in
        subst (λ H. PartOf k (indexed u ts (Some m) H)) (sym same) (element i.it i.mapped_so)
      where
        element : (x : Name) → find x mapped ≡ Some m → PartOf k (indexed u ts (Some m) (pure k (name x)))
        element x s =
            let all = q k in
            let j = (hoisted_all mapped u ts k).used in
            record {
              plain = λ ws g. place_alone ws (suc j) (suc (suc j)) (omega arith) g;
              reads = joined (hoisted_all mapped u ts k).reads (record { mapped = m; index = Some (place j, index_tree (hoisted_all mapped u ts k).rest); value = place (suc j) } ∷ []) k j (suc (suc j)) all.reads (suc (suc j), inr (record { name = x; is = s; tree = index_tree (hoisted_all mapped u ts k).rest; index = refl; plain = λ ws g. index_plain ws (hoisted_all mapped u ts k).rest (all.plain ws g); value = refl; next = refl }), refl);
            }

    mutual
      pub hoist : (u : List Name) (h i : Bool) (t : Tree) (k : ℕ) → Meet B u → Stands N C B u h i t → (i ≡ true → element_of mapped u t ≡ None) → Part (λ ws. T ws (hoisted mapped u t k).rest) k (hoisted mapped u t k).reads (hoisted mapped u t k).used
      hoist u h i (name x) k m g e = alone_part u h i x k m g e
      hoist u h i (primed x) k m g e = absurd g
      hoist u h i (number z) k m g e = nothing k
      hoist u h i (text s) k m g e = nothing k
      hoist u h i (truth q) k m g e = nothing k
      hoist u h i at k m g e = nothing k
      hoist u h i (word w) k m g e = nothing k
      hoist u h i (unary o a) k m g e =
          let p = hoist u h false a k m g never in made_of (λ ws q. q.0) (then_part p (nothing (hoisted mapped u a k).used))
      hoist u h i (binary o a d) k m g e =
          let k1 = (hoisted mapped u a k).used in
          made_of (λ ws q. (q.0, q.1.0)) (then_part (hoist u h false a k m g.0 never) (then_part (hoist u h false d k1 m g.1 never) (nothing (hoisted mapped u d k1).used)))
      hoist u h i (product ts) k m g e = made_of (λ ws q. q.0) (then_part (hoist_all u h ts k m g) (nothing (hoisted_all mapped u ts k).used))
      hoist u h i (cond_of p a d) k m g e =
          let k1 = (hoisted mapped u p k).used in
          let k2 = (hoisted mapped u a k1).used in
          made_of (λ ws q. (q.0, q.1.0, q.1.1.0)) (then_part (hoist u h false p k m g.0 never) (then_part (hoist u true false a k1 m g.1 never) (then_part (hoist u true false d k2 m g.2 never) (nothing (hoisted mapped u d k2).used))))
      hoist u h i (case_of gs) k m g e = made_of (λ ws q. q.0) (then_part (hoist_arms u h gs k m g) (nothing (hoisted_arms mapped u gs k).used))
      hoist u h i (case_other gs d) k m g e =
          let k1 = (hoisted_arms mapped u gs k).used in
          made_of (λ ws q. (q.0, q.1.0)) (then_part (hoist_arms u h gs k m g.0) (then_part (hoist u true false d k1 m g.1 never) (nothing (hoisted mapped u d k1).used)))
      hoist u h i (let_in ds d) k m g e =
          let k1 = (hoisted_let mapped u ds k).used in
          let v = below (names_of ds) u in
          made_of (λ ws q. (q.0, q.1.0)) (then_part (hoist_let u ds k m g.0) (then_part (hoist v true false d k1 (meet_below B (names_of ds) u (let_all N C B u ds g.0) m) g.1 never) (nothing (hoisted mapped v d k1).used)))
      hoist u h i (quantified q bs p) k m g e =
          let k1 = (hoisted_bound mapped u bs k).used in
          let v = below (names_bound bs) u in
          made_of (λ ws q. (q.0, q.1.0)) (then_part (hoist_bound u h bs k m g.0) (then_part (hoist v true false p k1 (meet_below B (names_bound bs) u (bound_all N C B u h bs g.0) m) g.1 never) (nothing (hoisted mapped v p k1).used)))
      hoist u h i (choose x r p) k m g e =
          let k1 = (hoisted mapped u r k).used in
          made_of (λ ws q. (ok.bound x g.0, q.0, q.1.0)) (then_part (hoist u h false r k m g.1 never) (then_part (hoist (x ∷ u) true false p k1 (meet_one B x u g.0 m) g.2 never) (nothing (hoisted mapped (x ∷ u) p k1).used)))
      hoist u h i (tuple ts) k m g e = made_of (λ ws q. q.0) (then_part (hoist_all u h ts k m g) (nothing (hoisted_all mapped u ts k).used))
      hoist u h i (set_of ts) k m g e = made_of (λ ws q. q.0) (then_part (hoist_all u h ts k m g) (nothing (hoisted_all mapped u ts k).used))
      hoist u h i (filter_of x r p) k m g e =
          let k1 = (hoisted mapped u r k).used in
          made_of (λ ws q. (ok.bound x g.0, q.0, q.1.0)) (then_part (hoist u h false r k m g.1 never) (then_part (hoist (x ∷ u) true false p k1 (meet_one B x u g.0 m) g.2 never) (nothing (hoisted mapped (x ∷ u) p k1).used)))
      hoist u h i (image d x r) k m g e =
          let v = x ∷ u in
          let k1 = (hoisted mapped v d k).used in
          made_of (λ ws q. (ok.bound x g.0, q.1.0, q.0)) (then_part (hoist v true false d k (meet_one B x u g.0 m) g.2 never) (then_part (hoist u h false r k1 m g.1 never) (nothing (hoisted mapped u r k1).used)))
      hoist u h i (fun_of bs d) k m g e =
          let k1 = (hoisted_bound mapped u bs k).used in
          let v = below (names_bound bs) u in
          made_of (λ ws q. (q.0, q.1.0)) (then_part (hoist_bound u h bs k m g.0) (then_part (hoist v true false d k1 (meet_below B (names_bound bs) u (bound_all N C B u h bs g.0) m) g.1 never) (nothing (hoisted mapped v d k1).used)))
      hoist u h i (fun_set a d) k m g e =
          let k1 = (hoisted mapped u a k).used in
          made_of (λ ws q. (q.0, q.1.0)) (then_part (hoist u h false a k m g.0 never) (then_part (hoist u h false d k1 m g.1 never) (nothing (hoisted mapped u d k1).used)))
      hoist u h i (record_of ds) k m g e = made_of (λ ws q. q.0) (then_part (hoist_fields u h ds k m g) (nothing (hoisted_fields mapped u ds k).used))
      hoist u h i (record_set ds) k m g e = made_of (λ ws q. q.0) (then_part (hoist_fields u h ds k m g) (nothing (hoisted_fields mapped u ds k).used))
      hoist u h i (except d us) k m g e =
          let k1 = (hoisted mapped u d k).used in
          made_of (λ ws q. (q.0, q.1.0)) (then_part (hoist u h false d k m g.0 never) (then_part (hoist_paths u h us k1 m g.1) (nothing (hoisted_paths mapped u us k1).used)))
      hoist u h i (index f ts) k m g e =
          index_part u f ts k (λ n. hoist u h (is_one ts) f k m g.0 (λ q. n)) (λ j. hoist_all u h ts j m g.1) (element_of mapped u f) refl
      hoist u h i (field r x) k m g e = made_of (λ ws q. q.0) (then_part (hoist u h false r k m g never) (nothing (hoisted mapped u r k).used))
      hoist u h i (call x ts) k m g e =
          let p = then_part (hoist_all u h ts k m g.1) (nothing (hoisted_all mapped u ts k).used) in
          record { plain = λ ws s. (applied_here ws (hoisted_all mapped u ts k).used x s g.0, (p.plain ws s).0); reads = p.reads }
      hoist u h i (unchanged xs) k m g e = absurd g

      hoist_all : (u : List Name) (h : Bool) (ts : Trees) (k : ℕ) → Meet B u → AllStand N C B u h ts → Part (λ ws. PlainAll (Alone vs ps ws) (Applied vs ps ws) (Bindable vs) (hoisted_all mapped u ts k).rest) k (hoisted_all mapped u ts k).reads (hoisted_all mapped u ts k).used
      hoist_all u h no_trees k m g = nothing k
      hoist_all u h (more_trees t ts) k m g =
          let k1 = (hoisted mapped u t k).used in
          made_of (λ ws q. (q.0, q.1.0)) (then_part (hoist u h false t k m g.0 never) (then_part (hoist_all u h ts k1 m g.1) (nothing (hoisted_all mapped u ts k1).used)))

      hoist_arms : (u : List Name) (h : Bool) (gs : TreePairs) (k : ℕ) → Meet B u → ArmsStand N C B u h gs → Part (λ ws. PlainArms (Alone vs ps ws) (Applied vs ps ws) (Bindable vs) (hoisted_arms mapped u gs k).rest) k (hoisted_arms mapped u gs k).reads (hoisted_arms mapped u gs k).used
      hoist_arms u h no_arms k m g = nothing k
      hoist_arms u h (more_arms d t gs) k m g =
          let k1 = (hoisted mapped u d k).used in
          let k2 = (hoisted mapped u t k1).used in
          made_of (λ ws q. (q.0, q.1.0, q.1.1.0)) (then_part (hoist u h false d k m g.0 never) (then_part (hoist u true false t k1 m g.1 never) (then_part (hoist_arms u true gs k2 m g.2) (nothing (hoisted_arms mapped u gs k2).used))))

      hoist_fields : (u : List Name) (h : Bool) (ds : NamedTrees) (k : ℕ) → Meet B u → FieldsStand N C B u h ds → Part (λ ws. PlainFields (Alone vs ps ws) (Applied vs ps ws) (Bindable vs) (hoisted_fields mapped u ds k).rest) k (hoisted_fields mapped u ds k).reads (hoisted_fields mapped u ds k).used
      hoist_fields u h no_named k m g = nothing k
      hoist_fields u h (more_named x t ts) k m g =
          let k1 = (hoisted mapped u t k).used in
          made_of (λ ws q. (q.0, q.1.0)) (then_part (hoist u h false t k m g.0 never) (then_part (hoist_fields u h ts k1 m g.1) (nothing (hoisted_fields mapped u ts k1).used)))

      hoist_let : (u : List Name) (ds : NamedTrees) (k : ℕ) → Meet B u → LetStand N C B u ds → Part (λ ws. PlainLet (Alone vs ps ws) (Applied vs ps ws) (Bindable vs) (hoisted_let mapped u ds k).rest) k (hoisted_let mapped u ds k).reads (hoisted_let mapped u ds k).used
      hoist_let u no_named k m g = nothing k
      hoist_let u (more_named x t ts) k m g =
          let k1 = (hoisted mapped u t k).used in
          made_of (λ ws q. (ok.bound x g.0, q.0, q.1.0)) (then_part (hoist u true false t k m g.1 never) (then_part (hoist_let (x ∷ u) ts k1 (meet_one B x u g.0 m) g.2) (nothing (hoisted_let mapped (x ∷ u) ts k1).used)))

      hoist_bound : (u : List Name) (h : Bool) (bs : BoundTrees) (k : ℕ) → Meet B u → BoundStand N C B u h bs → Part (λ ws. PlainBound (Alone vs ps ws) (Applied vs ps ws) (Bindable vs) (hoisted_bound mapped u bs k).rest) k (hoisted_bound mapped u bs k).reads (hoisted_bound mapped u bs k).used
      hoist_bound u h no_bound k m g = nothing k
      hoist_bound u h (more_bound xs r bs) k m g =
          let k1 = (hoisted mapped u r k).used in
          made_of (λ ws q. (all_bindable xs g.0, q.0, q.1.0)) (then_part (hoist u h false r k m g.1 never) (then_part (hoist_bound u h bs k1 m g.2) (nothing (hoisted_bound mapped u bs k1).used)))

      hoist_paths : (u : List Name) (h : Bool) (us : PathTrees) (k : ℕ) → Meet B u → PathsStand N C B u h us → Part (λ ws. PlainPaths (Alone vs ps ws) (Applied vs ps ws) (Bindable vs) (hoisted_paths mapped u us k).rest) k (hoisted_paths mapped u us k).reads (hoisted_paths mapped u us k).used
      hoist_paths u h no_paths k m g = nothing k
      hoist_paths u h (more_paths qs d us) k m g =
          let k1 = (hoisted_all mapped u qs k).used in
          let k2 = (hoisted mapped u d k1).used in
          made_of (λ ws q. (q.0, q.1.0, q.1.1.0)) (then_part (hoist_all u h qs k m g.0) (then_part (hoist u h false d k1 m g.1 never) (then_part (hoist_paths u h us k2 m g.2) (nothing (hoisted_paths mapped u us k2).used))))
