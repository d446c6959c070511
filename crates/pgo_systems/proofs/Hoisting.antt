-- The literals of expressions are within limits in what is put in their place, and in what is left once reads are hoisted out of them.
use Rattle.std.proofs.Common.{◌≡◌, ℕ, Bool, true, false, if◌then◌else◌, List, ◌∷◌, Option, Some, None, refl}
use Rattle.std.specs.List.{AllByRecursion}
use Rattle.pgo_base.specs.Lookup.{Name, find}
use Rattle.pgo_base.specs.Tree.{Tree, name, primed, number, text, truth, at, word, unary, binary, product, cond_of, case_of, case_other, let_in, quantified, choose, tuple, set_of, filter_of, image, fun_of, fun_set, record_of, record_set, except, index, field, call, unchanged, Trees, no_trees, more_trees, NamedTrees, no_named, more_named, TreePairs, no_arms, more_arms, BoundTrees, no_bound, more_bound, PathTrees, no_paths, more_paths}
use Rattle.pgo_model.specs.Options.{on}
use Rattle.pgo_sections.specs.Access.{Mapped, MappedNames, MappedRead, Hoisted, pure, then_hoist, read_whole, read_element, index_tree, name_alone, if_element, if_whole, mapped_under, element_of, hoisted, hoisted_all, hoisted_arms, hoisted_fields, hoisted_let, hoisted_bound, hoisted_paths}
use Rattle.pgo_model.specs.Names.{is_among}
use Rattle.pgo_sections.specs.Bound.{names_of, names_bound, below}
use Rattle.pgo_sections.specs.Replaced.{replaced, replaced_all, replaced_arms, replaced_fields, replaced_let, replaced_bound, replaced_paths}
use Rattle.pgo_values.proofs.Lists.{all_joined}
use Rattle.pgo_values.specs.Literals.{LiteralsWithin, TreesWithin, NamedTreesWithin, ArmsWithin, BoundWithin, PathsWithin}
use Rattle.pgo_systems.specs.Literals.{CodeWithin}
use Rattle.pgo_values.specs.Limits.{Limits}

module _ (limits : Limits) where
  -- ---- expressions in the place of names
  module _ (f : List Name → Name → Tree) (h : (under : List Name) (x : Name) → LiteralsWithin limits (f under x)) where
    mutual
      pub replaced_fits : (under : List Name) (t : Tree) → LiteralsWithin limits t → LiteralsWithin limits (replaced f under t)
      replaced_fits under (name x) l = h under x
      replaced_fits under (primed x) l = l
      replaced_fits under (number z) l = l
      replaced_fits under (text s) l = l
      replaced_fits under (truth b) l = l
      replaced_fits under at l = l
      replaced_fits under (word w) l = l
      replaced_fits under (unary o a) l = replaced_fits under a l
      replaced_fits under (binary o a b) l = (replaced_fits under a l.0, replaced_fits under b l.1)
      replaced_fits under (product ts) l = all_fit under ts l
      replaced_fits under (cond_of p a b) l = (replaced_fits under p l.0, replaced_fits under a l.1, replaced_fits under b l.2)
      replaced_fits under (case_of gs) l = arms_fit under gs l
      replaced_fits under (case_other gs e) l = (arms_fit under gs l.0, replaced_fits under e l.1)
      replaced_fits under (let_in ds e) l = (let_fit under ds l.0, replaced_fits (below (names_of ds) under) e l.1)
      replaced_fits under (quantified q bs p) l = (bound_fit under bs l.0, replaced_fits (below (names_bound bs) under) p l.1)
      replaced_fits under (choose x r p) l = (replaced_fits under r l.0, replaced_fits (x ∷ under) p l.1)
      replaced_fits under (tuple ts) l = all_fit under ts l
      replaced_fits under (set_of ts) l = all_fit under ts l
      replaced_fits under (filter_of x r p) l = (replaced_fits under r l.0, replaced_fits (x ∷ under) p l.1)
      replaced_fits under (image e x r) l = (replaced_fits (x ∷ under) e l.0, replaced_fits under r l.1)
      replaced_fits under (fun_of bs e) l = (bound_fit under bs l.0, replaced_fits (below (names_bound bs) under) e l.1)
      replaced_fits under (fun_set a b) l = (replaced_fits under a l.0, replaced_fits under b l.1)
      replaced_fits under (record_of ds) l = fields_fit under ds l
      replaced_fits under (record_set ds) l = fields_fit under ds l
      replaced_fits under (except a us) l = (replaced_fits under a l.0, paths_fit under us l.1)
      replaced_fits under (index a ts) l = (replaced_fits under a l.0, all_fit under ts l.1)
      replaced_fits under (field a x) l = (l.0, replaced_fits under a l.1)
      replaced_fits under (call x ts) l = all_fit under ts l
      replaced_fits under (unchanged xs) l = l

      all_fit : (under : List Name) (ts : Trees) → TreesWithin limits ts → TreesWithin limits (replaced_all f under ts)
      all_fit under no_trees l = tt
      all_fit under (more_trees t ts) l = (replaced_fits under t l.0, all_fit under ts l.1)

      arms_fit : (under : List Name) (gs : TreePairs) → ArmsWithin limits gs → ArmsWithin limits (replaced_arms f under gs)
      arms_fit under no_arms l = tt
      arms_fit under (more_arms g e gs) l = (replaced_fits under g l.0, replaced_fits under e l.1, arms_fit under gs l.2)

      fields_fit : (under : List Name) (ds : NamedTrees) → NamedTreesWithin limits ds → NamedTreesWithin limits (replaced_fields f under ds)
      fields_fit under no_named l = tt
      fields_fit under (more_named x t ds) l = (l.0, replaced_fits under t l.1, fields_fit under ds l.2)

      let_fit : (under : List Name) (ds : NamedTrees) → NamedTreesWithin limits ds → NamedTreesWithin limits (replaced_let f under ds)
      let_fit under no_named l = tt
      let_fit under (more_named x t ds) l = (l.0, replaced_fits under t l.1, let_fit (x ∷ under) ds l.2)

      bound_fit : (under : List Name) (bs : BoundTrees) → BoundWithin limits bs → BoundWithin limits (replaced_bound f under bs)
      bound_fit under no_bound l = tt
      bound_fit under (more_bound xs r bs) l = (replaced_fits under r l.0, bound_fit under bs l.1)

      paths_fit : (under : List Name) (us : PathTrees) → PathsWithin limits us → PathsWithin limits (replaced_paths f under us)
      paths_fit under no_paths l = tt
      paths_fit under (more_paths ps e us) l = (all_fit under ps l.0, replaced_fits under e l.1, paths_fit under us l.2)

  -- ---- reads hoisted out
  abbrev pub IndexWithin : Option (Name × Tree) → Type 0
  IndexWithin None = Unit {0}
  IndexWithin (Some i) = LiteralsWithin limits i.1

  abbrev pub ReadWithin : MappedRead → Type 0
  ReadWithin r = IndexWithin r.index × CodeWithin limits r.mapped.reads

  abbrev pub ReadsWithin : List MappedRead → Type 0
  ReadsWithin rs = AllByRecursion ReadWithin rs

  abbrev pub HoistedWithin : {A : Type 0} → (A → Type 0) → Hoisted A → Type 0
  HoistedWithin F p = ReadsWithin p.reads × F p.rest

  then_fit : {A B : Type 0} (F : A → Type 0) (G : B → Type 0) (p : Hoisted A) (f : A → ℕ → Hoisted B) → HoistedWithin F p → (F p.rest → HoistedWithin G (f p.rest p.used)) → HoistedWithin G (then_hoist p f)
  then_fit F G p f h g = let q = g h.1 in (all_joined ReadWithin p.reads (f p.rest p.used).reads h.0 q.0, q.1)

  index_fits : (ts : Trees) → TreesWithin limits ts → LiteralsWithin limits (index_tree ts)
  index_fits no_trees l = tt
  index_fits (more_trees t no_trees) l = l.0
  index_fits (more_trees t (more_trees u us)) l = l

  module _ (mapped : MappedNames) (blocks : (x : Name) (m : Mapped) → find x mapped ≡ Some m → CodeWithin limits m.reads) where
    under_fits : (under : List Name) (x : Name) (m : Mapped) → mapped_under mapped under x ≡ Some m → CodeWithin limits m.reads
    under_fits under x m e = go (is_among x under) e
      where
        go : (b : Bool) → (if b then None else find x mapped) ≡ Some m → CodeWithin limits m.reads
        go true k = absurd (cc)
        go false k = blocks x m k

    whole_fits : (x : Name) (k : ℕ) (o : Option Mapped) → ((m : Mapped) → o ≡ Some m → CodeWithin limits m.reads) → HoistedWithin (LiteralsWithin limits) (on (pure k (name x)) (if_whole o) (λ m. read_whole m k))
    whole_fits x k None h = (tt, tt)
    whole_fits x k (Some m) h = go m.by_element
      where
        go : (b : Bool) → HoistedWithin (LiteralsWithin limits) (on (pure k (name x)) (if b then None else Some m) (λ m. read_whole m k))
        go true = (tt, tt)
        go false = (((tt, h m refl), tt), tt)

    element_there : (o : Option Mapped) (m : Mapped) → if_element o ≡ Some m → o ≡ Some m
    element_there None m e = absurd (cc)
    element_there (Some q) m e = go q.by_element e
      where
        go : (b : Bool) → (if b then Some q else None) ≡ Some m → Some q ≡ Some m
        go true k = k
        go false k = absurd (cc)

    element_fits : (under : List Name) (f : Tree) (m : Mapped) → element_of mapped under f ≡ Some m → CodeWithin limits m.reads
    element_fits under f m e = go (name_alone f) e
      where
        go : (o : Option Name) → on None o (λ x. if_element (mapped_under mapped under x)) ≡ Some m → CodeWithin limits m.reads
        go None k = absurd (cc)
        go (Some x) k = under_fits under x m (element_there (mapped_under mapped under x) m k)

    element_read : (f : Tree) (us : Trees) (k : ℕ) (o : Option Mapped) → ((m : Mapped) → o ≡ Some m → CodeWithin limits m.reads) → LiteralsWithin limits f → TreesWithin limits us → HoistedWithin (LiteralsWithin limits) (on (pure k (index f us)) o (λ m. read_element m (index_tree us) k))
    element_read f us k None h l g = (tt, (l, g))
    element_read f us k (Some m) h l g = (((index_fits us g, h m refl), tt), tt)

    two_fit : (p : Hoisted Tree) (q : ℕ → Hoisted Tree) (make : Tree → Tree → Tree) → HoistedWithin (LiteralsWithin limits) p → ((k : ℕ) → HoistedWithin (LiteralsWithin limits) (q k)) → ((a' b' : Tree) → LiteralsWithin limits a' → LiteralsWithin limits b' → LiteralsWithin limits (make a' b')) → HoistedWithin (LiteralsWithin limits) (then_hoist p (λ a' k1. then_hoist (q k1) (λ b' k2. pure k2 (make a' b'))))
    two_fit p q make f g both =
        then_fit (LiteralsWithin limits) (LiteralsWithin limits) p (λ a' k1. then_hoist (q k1) (λ b' k2. pure k2 (make a' b'))) f (λ h.
        then_fit (LiteralsWithin limits) (LiteralsWithin limits) (q p.used) (λ b' k2. pure k2 (make p.rest b')) (g p.used) (λ r. (tt, both p.rest (q p.used).rest h r)))

    mutual
      pub hoisted_fits : (under : List Name) (e : Tree) (k : ℕ) → LiteralsWithin limits e → HoistedWithin (LiteralsWithin limits) (hoisted mapped under e k)
      hoisted_fits under (name x) k l = whole_fits x k (mapped_under mapped under x) (λ m e. under_fits under x m e)
      hoisted_fits under (primed x) k l = (tt, l)
      hoisted_fits under (number z) k l = (tt, l)
      hoisted_fits under (text s) k l = (tt, l)
      hoisted_fits under (truth b) k l = (tt, l)
      hoisted_fits under at k l = (tt, l)
      hoisted_fits under (word w) k l = (tt, l)
      hoisted_fits under (unary o a) k l = then_fit (LiteralsWithin limits) (LiteralsWithin limits) (hoisted mapped under a k) (λ a' k1. pure k1 (unary o a')) (hoisted_fits under a k l) (λ h. (tt, h))
      hoisted_fits under (binary o a b) k l = two_fit (hoisted mapped under a k) (λ k1. hoisted mapped under b k1) (λ a' b'. binary o a' b') (hoisted_fits under a k l.0) (λ k1. hoisted_fits under b k1 l.1) (λ a' b' h g. (h, g))
      hoisted_fits under (product ts) k l = then_fit (TreesWithin limits) (LiteralsWithin limits) (hoisted_all mapped under ts k) (λ us k1. pure k1 (product us)) (h_all_fit under ts k l) (λ h. (tt, h))
      hoisted_fits under (cond_of p a b) k l =
          then_fit (LiteralsWithin limits) (LiteralsWithin limits) (hoisted mapped under p k) (λ p' k1. then_hoist (hoisted mapped under a k1) (λ a' k2. then_hoist (hoisted mapped under b k2) (λ b' k3. pure k3 (cond_of p' a' b')))) (hoisted_fits under p k l.0) (λ hp.
          let p1 = hoisted mapped under p k in
          then_fit (LiteralsWithin limits) (LiteralsWithin limits) (hoisted mapped under a p1.used) (λ a' k2. then_hoist (hoisted mapped under b k2) (λ b' k3. pure k3 (cond_of p1.rest a' b'))) (hoisted_fits under a p1.used l.1) (λ ha.
          let p2 = hoisted mapped under a p1.used in
          then_fit (LiteralsWithin limits) (LiteralsWithin limits) (hoisted mapped under b p2.used) (λ b' k3. pure k3 (cond_of p1.rest p2.rest b')) (hoisted_fits under b p2.used l.2) (λ hb. (tt, (hp, ha, hb)))))
      hoisted_fits under (case_of gs) k l = then_fit (ArmsWithin limits) (LiteralsWithin limits) (hoisted_arms mapped under gs k) (λ gs' k1. pure k1 (case_of gs')) (h_arms_fit under gs k l) (λ h. (tt, h))
      hoisted_fits under (case_other gs e) k l =
          let p1 = hoisted_arms mapped under gs k in
          then_fit (ArmsWithin limits) (LiteralsWithin limits) p1 (λ gs' k1. then_hoist (hoisted mapped under e k1) (λ e' k2. pure k2 (case_other gs' e'))) (h_arms_fit under gs k l.0) (λ h.
          then_fit (LiteralsWithin limits) (LiteralsWithin limits) (hoisted mapped under e p1.used) (λ e' k2. pure k2 (case_other p1.rest e')) (hoisted_fits under e p1.used l.1) (λ g. (tt, (h, g))))
      hoisted_fits under (let_in ds e) k l =
          let p1 = hoisted_let mapped under ds k in
          let u = below (names_of ds) under in
          then_fit (NamedTreesWithin limits) (LiteralsWithin limits) p1 (λ ds' k1. then_hoist (hoisted mapped u e k1) (λ e' k2. pure k2 (let_in ds' e'))) (h_let_fit under ds k l.0) (λ h.
          then_fit (LiteralsWithin limits) (LiteralsWithin limits) (hoisted mapped u e p1.used) (λ e' k2. pure k2 (let_in p1.rest e')) (hoisted_fits u e p1.used l.1) (λ g. (tt, (h, g))))
      hoisted_fits under (quantified q bs p) k l =
          let p1 = hoisted_bound mapped under bs k in
          let u = below (names_bound bs) under in
          then_fit (BoundWithin limits) (LiteralsWithin limits) p1 (λ bs' k1. then_hoist (hoisted mapped u p k1) (λ p' k2. pure k2 (quantified q bs' p'))) (h_bound_fit under bs k l.0) (λ h.
          then_fit (LiteralsWithin limits) (LiteralsWithin limits) (hoisted mapped u p p1.used) (λ p' k2. pure k2 (quantified q p1.rest p')) (hoisted_fits u p p1.used l.1) (λ g. (tt, (h, g))))
      hoisted_fits under (choose x r p) k l = two_fit (hoisted mapped under r k) (λ k1. hoisted mapped (x ∷ under) p k1) (λ r' p'. choose x r' p') (hoisted_fits under r k l.0) (λ k1. hoisted_fits (x ∷ under) p k1 l.1) (λ a' b' h g. (h, g))
      hoisted_fits under (tuple ts) k l = then_fit (TreesWithin limits) (LiteralsWithin limits) (hoisted_all mapped under ts k) (λ us k1. pure k1 (tuple us)) (h_all_fit under ts k l) (λ h. (tt, h))
      hoisted_fits under (set_of ts) k l = then_fit (TreesWithin limits) (LiteralsWithin limits) (hoisted_all mapped under ts k) (λ us k1. pure k1 (set_of us)) (h_all_fit under ts k l) (λ h. (tt, h))
      hoisted_fits under (filter_of x r p) k l = two_fit (hoisted mapped under r k) (λ k1. hoisted mapped (x ∷ under) p k1) (λ r' p'. filter_of x r' p') (hoisted_fits under r k l.0) (λ k1. hoisted_fits (x ∷ under) p k1 l.1) (λ a' b' h g. (h, g))
      hoisted_fits under (image e x r) k l = two_fit (hoisted mapped (x ∷ under) e k) (λ k1. hoisted mapped under r k1) (λ e' r'. image e' x r') (hoisted_fits (x ∷ under) e k l.0) (λ k1. hoisted_fits under r k1 l.1) (λ a' b' h g. (h, g))
      hoisted_fits under (fun_of bs e) k l =
          let p1 = hoisted_bound mapped under bs k in
          let u = below (names_bound bs) under in
          then_fit (BoundWithin limits) (LiteralsWithin limits) p1 (λ bs' k1. then_hoist (hoisted mapped u e k1) (λ e' k2. pure k2 (fun_of bs' e'))) (h_bound_fit under bs k l.0) (λ h.
          then_fit (LiteralsWithin limits) (LiteralsWithin limits) (hoisted mapped u e p1.used) (λ e' k2. pure k2 (fun_of p1.rest e')) (hoisted_fits u e p1.used l.1) (λ g. (tt, (h, g))))
      hoisted_fits under (fun_set a b) k l = two_fit (hoisted mapped under a k) (λ k1. hoisted mapped under b k1) (λ a' b'. fun_set a' b') (hoisted_fits under a k l.0) (λ k1. hoisted_fits under b k1 l.1) (λ a' b' h g. (h, g))
      hoisted_fits under (record_of ds) k l = then_fit (NamedTreesWithin limits) (LiteralsWithin limits) (hoisted_fields mapped under ds k) (λ us k1. pure k1 (record_of us)) (h_fields_fit under ds k l) (λ h. (tt, h))
      hoisted_fits under (record_set ds) k l = then_fit (NamedTreesWithin limits) (LiteralsWithin limits) (hoisted_fields mapped under ds k) (λ us k1. pure k1 (record_set us)) (h_fields_fit under ds k l) (λ h. (tt, h))
      hoisted_fits under (except f us) k l =
          let p1 = hoisted mapped under f k in
          then_fit (LiteralsWithin limits) (LiteralsWithin limits) p1 (λ f' k1. then_hoist (hoisted_paths mapped under us k1) (λ us' k2. pure k2 (except f' us'))) (hoisted_fits under f k l.0) (λ h.
          then_fit (PathsWithin limits) (LiteralsWithin limits) (hoisted_paths mapped under us p1.used) (λ us' k2. pure k2 (except p1.rest us')) (h_paths_fit under us p1.used l.1) (λ g. (tt, (h, g))))
      hoisted_fits under (index f ts) k l =
          let p1 = hoisted mapped under f k in
          let p2 = hoisted_all mapped under ts p1.used in
          then_fit (LiteralsWithin limits) (LiteralsWithin limits) p1 (λ f' k1. then_hoist (hoisted_all mapped under ts k1) (λ us k2. on (pure k2 (index f' us)) (element_of mapped under f) (λ m. read_element m (index_tree us) k2))) (hoisted_fits under f k l.0) (λ h.
          then_fit (TreesWithin limits) (LiteralsWithin limits) p2 (λ us k2. on (pure k2 (index p1.rest us)) (element_of mapped under f) (λ m. read_element m (index_tree us) k2)) (h_all_fit under ts p1.used l.1) (λ g.
          element_read p1.rest p2.rest p2.used (element_of mapped under f) (λ m e. element_fits under f m e) h g))
      hoisted_fits under (field r x) k l = then_fit (LiteralsWithin limits) (LiteralsWithin limits) (hoisted mapped under r k) (λ r' k1. pure k1 (field r' x)) (hoisted_fits under r k l.1) (λ h. (tt, (l.0, h)))
      hoisted_fits under (call x ts) k l = then_fit (TreesWithin limits) (LiteralsWithin limits) (hoisted_all mapped under ts k) (λ us k1. pure k1 (call x us)) (h_all_fit under ts k l) (λ h. (tt, h))
      hoisted_fits under (unchanged xs) k l = (tt, l)

      h_all_fit : (under : List Name) (ts : Trees) (k : ℕ) → TreesWithin limits ts → HoistedWithin (TreesWithin limits) (hoisted_all mapped under ts k)
      h_all_fit under no_trees k l = (tt, tt)
      h_all_fit under (more_trees t ts) k l =
          let p1 = hoisted mapped under t k in
          then_fit (LiteralsWithin limits) (TreesWithin limits) p1 (λ t' k1. then_hoist (hoisted_all mapped under ts k1) (λ us k2. pure k2 (more_trees t' us))) (hoisted_fits under t k l.0) (λ h.
          then_fit (TreesWithin limits) (TreesWithin limits) (hoisted_all mapped under ts p1.used) (λ us k2. pure k2 (more_trees p1.rest us)) (h_all_fit under ts p1.used l.1) (λ g. (tt, (h, g))))

      h_arms_fit : (under : List Name) (gs : TreePairs) (k : ℕ) → ArmsWithin limits gs → HoistedWithin (ArmsWithin limits) (hoisted_arms mapped under gs k)
      h_arms_fit under no_arms k l = (tt, tt)
      h_arms_fit under (more_arms g e gs) k l =
          let p1 = hoisted mapped under g k in
          let p2 = hoisted mapped under e p1.used in
          then_fit (LiteralsWithin limits) (ArmsWithin limits) p1 (λ g' k1. then_hoist (hoisted mapped under e k1) (λ e' k2. then_hoist (hoisted_arms mapped under gs k2) (λ gs' k3. pure k3 (more_arms g' e' gs')))) (hoisted_fits under g k l.0) (λ hg.
          then_fit (LiteralsWithin limits) (ArmsWithin limits) p2 (λ e' k2. then_hoist (hoisted_arms mapped under gs k2) (λ gs' k3. pure k3 (more_arms p1.rest e' gs'))) (hoisted_fits under e p1.used l.1) (λ he.
          then_fit (ArmsWithin limits) (ArmsWithin limits) (hoisted_arms mapped under gs p2.used) (λ gs' k3. pure k3 (more_arms p1.rest p2.rest gs')) (h_arms_fit under gs p2.used l.2) (λ hs. (tt, (hg, he, hs)))))

      h_fields_fit : (under : List Name) (ds : NamedTrees) (k : ℕ) → NamedTreesWithin limits ds → HoistedWithin (NamedTreesWithin limits) (hoisted_fields mapped under ds k)
      h_fields_fit under no_named k l = (tt, tt)
      h_fields_fit under (more_named x t ts) k l =
          let p1 = hoisted mapped under t k in
          then_fit (LiteralsWithin limits) (NamedTreesWithin limits) p1 (λ t' k1. then_hoist (hoisted_fields mapped under ts k1) (λ us k2. pure k2 (more_named x t' us))) (hoisted_fits under t k l.1) (λ h.
          then_fit (NamedTreesWithin limits) (NamedTreesWithin limits) (hoisted_fields mapped under ts p1.used) (λ us k2. pure k2 (more_named x p1.rest us)) (h_fields_fit under ts p1.used l.2) (λ g. (tt, (l.0, h, g))))

      h_let_fit : (under : List Name) (ds : NamedTrees) (k : ℕ) → NamedTreesWithin limits ds → HoistedWithin (NamedTreesWithin limits) (hoisted_let mapped under ds k)
      h_let_fit under no_named k l = (tt, tt)
      h_let_fit under (more_named x t ts) k l =
          let p1 = hoisted mapped under t k in
          then_fit (LiteralsWithin limits) (NamedTreesWithin limits) p1 (λ t' k1. then_hoist (hoisted_let mapped (x ∷ under) ts k1) (λ us k2. pure k2 (more_named x t' us))) (hoisted_fits under t k l.1) (λ h.
          then_fit (NamedTreesWithin limits) (NamedTreesWithin limits) (hoisted_let mapped (x ∷ under) ts p1.used) (λ us k2. pure k2 (more_named x p1.rest us)) (h_let_fit (x ∷ under) ts p1.used l.2) (λ g. (tt, (l.0, h, g))))

      h_bound_fit : (under : List Name) (bs : BoundTrees) (k : ℕ) → BoundWithin limits bs → HoistedWithin (BoundWithin limits) (hoisted_bound mapped under bs k)
      h_bound_fit under no_bound k l = (tt, tt)
      h_bound_fit under (more_bound xs r bs) k l =
          let p1 = hoisted mapped under r k in
          then_fit (LiteralsWithin limits) (BoundWithin limits) p1 (λ r' k1. then_hoist (hoisted_bound mapped under bs k1) (λ bs' k2. pure k2 (more_bound xs r' bs'))) (hoisted_fits under r k l.0) (λ h.
          then_fit (BoundWithin limits) (BoundWithin limits) (hoisted_bound mapped under bs p1.used) (λ bs' k2. pure k2 (more_bound xs p1.rest bs')) (h_bound_fit under bs p1.used l.1) (λ g. (tt, (h, g))))

      h_paths_fit : (under : List Name) (us : PathTrees) (k : ℕ) → PathsWithin limits us → HoistedWithin (PathsWithin limits) (hoisted_paths mapped under us k)
      h_paths_fit under no_paths k l = (tt, tt)
      h_paths_fit under (more_paths ps e us) k l =
          let p1 = hoisted_all mapped under ps k in
          let p2 = hoisted mapped under e p1.used in
          then_fit (TreesWithin limits) (PathsWithin limits) p1 (λ ps' k1. then_hoist (hoisted mapped under e k1) (λ e' k2. then_hoist (hoisted_paths mapped under us k2) (λ us' k3. pure k3 (more_paths ps' e' us')))) (h_all_fit under ps k l.0) (λ hp.
          then_fit (LiteralsWithin limits) (PathsWithin limits) p2 (λ e' k2. then_hoist (hoisted_paths mapped under us k2) (λ us' k3. pure k3 (more_paths p1.rest e' us'))) (hoisted_fits under e p1.used l.1) (λ he.
          then_fit (PathsWithin limits) (PathsWithin limits) (hoisted_paths mapped under us p2.used) (λ us' k3. pure k3 (more_paths p1.rest p2.rest us')) (h_paths_fit under us p2.used l.2) (λ hu. (tt, (hp, he, hu)))))
