-- Expressions whose names are identifiers are well formed; and names may stand in more ways, and be replaced by expressions.
use Rattle.std.proofs.Common.{◌≡◌, Bool, true, false, ◌||◌, ◌⊎◌, inl, inr, List, [], ◌∷◌, ◌++◌, refl, sym, subst}
use Rattle.pgo_base.specs.Lookup.{Name, same_name}
use Rattle.pgo_base.specs.declared.expr.Infix.{Infix}
use Rattle.pgo_base.specs.declared.expr.Infix.TheVariants as op
use Rattle.pgo_base.specs.Tree.{Tree, name, primed, number, text, truth, at, word, unary, binary, product, cond_of, case_of, case_other, let_in, quantified, choose, tuple, set_of, filter_of, image, fun_of, fun_set, record_of, record_set, except, index, field, call, unchanged, Trees, no_trees, more_trees, NamedTrees, no_named, more_named, TreePairs, no_arms, more_arms, BoundTrees, no_bound, more_bound, PathTrees, no_paths, more_paths}
use Rattle.pgo_model.specs.Names.{same_name-is, is_among}
use Rattle.pgo_sections.specs.Bound.{names_of, names_bound, below}
use Rattle.pgo_sections.specs.Replaced.{replaced, replaced_all, replaced_arms, replaced_fields, replaced_let, replaced_bound, replaced_paths}
use Rattle.pgo_expr_write.specs.WellFormed.{IsWellFormed, IsName, AreNames, AreSomeNames, is_word, is_member_of_word, AreAll, AreSome, AreTwo, AreAllNamed, AreNamed, AreAllArms, AreArms, AreAllBinders, AreBinders, AreAllUpdates, AreUpdates}
use Rattle.pgo_written.specs.Formed.{Formed, AllFormed, SomeFormed, TwoFormed, NamedFormed, SomeNamedFormed, ArmsFormed, SomeArmsFormed, BoundFormed, SomeBoundFormed, PathsFormed, SomePathsFormed, RangeFormed}

-- either way
pub either_way : {A B C D : Type 0} → A ⊎ B → (A → C) → (B → D) → C ⊎ D
either_way (inl a) f g = inl (f a)
either_way (inr b) f g = inr (g b)

-- ---- identifiers alone

mutual
  pub well_formed : (t : Tree) → Formed IsName t → IsWellFormed t
  well_formed (unary p a) h = well_formed a h
  well_formed (binary p a b) h = (well_formed a h.0, either_way h.1 (λ e. e) (λ k. well_formed b k))
  well_formed (product ts) h = two_well ts h
  well_formed (cond_of p a b) h = (well_formed p h.0, well_formed a h.1, well_formed b h.2)
  well_formed (case_of gs) h = some_arms_well gs h
  well_formed (case_other gs e) h = (some_arms_well gs h.0, well_formed e h.1)
  well_formed (let_in ds e) h = (some_named_well ds h.0, well_formed e h.1)
  well_formed (quantified q bs p) h = (some_bound_well bs h.0, well_formed p h.1)
  well_formed (choose x r p) h = (h.0, either_way h.1 (λ e. e) (λ k. well_formed r k), well_formed p h.2)
  well_formed (tuple ts) h = all_well ts h
  well_formed (set_of ts) h = all_well ts h
  well_formed (filter_of x r p) h = (h.0, either_way h.1 (λ e. e) (λ k. well_formed r k), well_formed p h.2)
  well_formed (image e x r) h = (well_formed e h.0, h.1, either_way h.2 (λ e. e) (λ k. well_formed r k))
  well_formed (fun_of bs e) h = (some_bound_well bs h.0, well_formed e h.1)
  well_formed (fun_set a b) h = (well_formed a h.0, well_formed b h.1)
  well_formed (record_of ds) h = some_named_well ds h
  well_formed (record_set ds) h = some_named_well ds h
  well_formed (except f us) h = (well_formed f h.0, some_paths_well us h.1)
  well_formed (index f ts) h = (well_formed f h.0, some_well ts h.1)
  well_formed (field r x) h = (well_formed r h.0, h.1)
  well_formed (call x ts) h = (h.0, some_well ts h.1)
  well_formed t h = h

  all_well : (ts : Trees) → AllFormed IsName ts → AreAll ts
  all_well no_trees h = tt
  all_well (more_trees t ts) h = (well_formed t h.0, all_well ts h.1)

  some_well : (ts : Trees) → SomeFormed IsName ts → AreSome ts
  some_well no_trees h = absurd h
  some_well (more_trees t ts) h = (well_formed t h.0, all_well ts h.1)

  two_well : (ts : Trees) → TwoFormed IsName ts → AreTwo ts
  two_well no_trees h = absurd h
  two_well (more_trees t ts) h = (well_formed t h.0, some_well ts h.1)

  named_well : (ds : NamedTrees) → NamedFormed IsName ds → AreAllNamed ds
  named_well no_named h = tt
  named_well (more_named x t ts) h = (h.0, well_formed t h.1, named_well ts h.2)

  some_named_well : (ds : NamedTrees) → SomeNamedFormed IsName ds → AreNamed ds
  some_named_well no_named h = absurd h
  some_named_well (more_named x t ts) h = (h.0, well_formed t h.1, named_well ts h.2)

  arms_well : (gs : TreePairs) → ArmsFormed IsName gs → AreAllArms gs
  arms_well no_arms h = tt
  arms_well (more_arms g e gs) h = (well_formed g h.0, well_formed e h.1, arms_well gs h.2)

  some_arms_well : (gs : TreePairs) → SomeArmsFormed IsName gs → AreArms gs
  some_arms_well no_arms h = absurd h
  some_arms_well (more_arms g e gs) h = (well_formed g h.0, well_formed e h.1, arms_well gs h.2)

  bound_well : (bs : BoundTrees) → BoundFormed IsName bs → AreAllBinders bs
  bound_well no_bound h = tt
  bound_well (more_bound xs r bs) h = (h.0, either_way h.1 (λ e. e) (λ k. well_formed r k), bound_well bs h.2)

  some_bound_well : (bs : BoundTrees) → SomeBoundFormed IsName bs → AreBinders bs
  some_bound_well no_bound h = absurd h
  some_bound_well (more_bound xs r bs) h = (h.0, either_way h.1 (λ e. e) (λ k. well_formed r k), bound_well bs h.2)

  paths_well : (us : PathTrees) → PathsFormed IsName us → AreAllUpdates us
  paths_well no_paths h = tt
  paths_well (more_paths ps e us) h = (some_well ps h.0, well_formed e h.1, paths_well us h.2)

  some_paths_well : (us : PathTrees) → SomePathsFormed IsName us → AreUpdates us
  some_paths_well no_paths h = absurd h
  some_paths_well (more_paths ps e us) h = (some_well ps h.0, well_formed e h.1, paths_well us h.2)

pub range_well : (r : Tree) → RangeFormed IsName r → (is_word r ≡ true) ⊎ IsWellFormed r
range_well r h = either_way h (λ e. e) (well_formed r)

-- ---- names that stand in more ways

module _ (N M : Name → Type 0) (up : (x : Name) → N x → M x) where
  mutual
    pub weaker : (t : Tree) → Formed N t → Formed M t
    weaker (unary p a) h = weaker a h
    weaker (binary p a b) h = (weaker a h.0, either_way h.1 (λ e. e) (λ k. weaker b k))
    weaker (product ts) h = two_weaker ts h
    weaker (cond_of p a b) h = (weaker p h.0, weaker a h.1, weaker b h.2)
    weaker (case_of gs) h = some_arms_weaker gs h
    weaker (case_other gs e) h = (some_arms_weaker gs h.0, weaker e h.1)
    weaker (let_in ds e) h = (some_named_weaker ds h.0, weaker e h.1)
    weaker (quantified q bs p) h = (some_bound_weaker bs h.0, weaker p h.1)
    weaker (choose x r p) h = (h.0, either_way h.1 (λ e. e) (λ k. weaker r k), weaker p h.2)
    weaker (tuple ts) h = all_weaker ts h
    weaker (set_of ts) h = all_weaker ts h
    weaker (filter_of x r p) h = (h.0, either_way h.1 (λ e. e) (λ k. weaker r k), weaker p h.2)
    weaker (image e x r) h = (weaker e h.0, h.1, either_way h.2 (λ e. e) (λ k. weaker r k))
    weaker (fun_of bs e) h = (some_bound_weaker bs h.0, weaker e h.1)
    weaker (fun_set a b) h = (weaker a h.0, weaker b h.1)
    weaker (record_of ds) h = some_named_weaker ds h
    weaker (record_set ds) h = some_named_weaker ds h
    weaker (except f us) h = (weaker f h.0, some_paths_weaker us h.1)
    weaker (index f ts) h = (weaker f h.0, some_weaker ts h.1)
    weaker (field r x) h = (weaker r h.0, h.1)
    weaker (call x ts) h = (h.0, some_weaker ts h.1)
    weaker (name x) h = up x h
    weaker (primed x) h = h
    weaker (number z) h = h
    weaker (text s) h = h
    weaker (truth b) h = h
    weaker at h = h
    weaker (word w) h = h
    weaker (unchanged xs) h = h

    all_weaker : (ts : Trees) → AllFormed N ts → AllFormed M ts
    all_weaker no_trees h = tt
    all_weaker (more_trees t ts) h = (weaker t h.0, all_weaker ts h.1)

    some_weaker : (ts : Trees) → SomeFormed N ts → SomeFormed M ts
    some_weaker no_trees h = absurd h
    some_weaker (more_trees t ts) h = (weaker t h.0, all_weaker ts h.1)

    two_weaker : (ts : Trees) → TwoFormed N ts → TwoFormed M ts
    two_weaker no_trees h = absurd h
    two_weaker (more_trees t ts) h = (weaker t h.0, some_weaker ts h.1)

    named_weaker : (ds : NamedTrees) → NamedFormed N ds → NamedFormed M ds
    named_weaker no_named h = tt
    named_weaker (more_named x t ts) h = (h.0, weaker t h.1, named_weaker ts h.2)

    some_named_weaker : (ds : NamedTrees) → SomeNamedFormed N ds → SomeNamedFormed M ds
    some_named_weaker no_named h = absurd h
    some_named_weaker (more_named x t ts) h = (h.0, weaker t h.1, named_weaker ts h.2)

    arms_weaker : (gs : TreePairs) → ArmsFormed N gs → ArmsFormed M gs
    arms_weaker no_arms h = tt
    arms_weaker (more_arms g e gs) h = (weaker g h.0, weaker e h.1, arms_weaker gs h.2)

    some_arms_weaker : (gs : TreePairs) → SomeArmsFormed N gs → SomeArmsFormed M gs
    some_arms_weaker no_arms h = absurd h
    some_arms_weaker (more_arms g e gs) h = (weaker g h.0, weaker e h.1, arms_weaker gs h.2)

    bound_weaker : (bs : BoundTrees) → BoundFormed N bs → BoundFormed M bs
    bound_weaker no_bound h = tt
    bound_weaker (more_bound xs r bs) h = (h.0, either_way h.1 (λ e. e) (λ k. weaker r k), bound_weaker bs h.2)

    some_bound_weaker : (bs : BoundTrees) → SomeBoundFormed N bs → SomeBoundFormed M bs
    some_bound_weaker no_bound h = absurd h
    some_bound_weaker (more_bound xs r bs) h = (h.0, either_way h.1 (λ e. e) (λ k. weaker r k), bound_weaker bs h.2)

    paths_weaker : (us : PathTrees) → PathsFormed N us → PathsFormed M us
    paths_weaker no_paths h = tt
    paths_weaker (more_paths ps e us) h = (some_weaker ps h.0, weaker e h.1, paths_weaker us h.2)

    some_paths_weaker : (us : PathTrees) → SomePathsFormed N us → SomePathsFormed M us
    some_paths_weaker no_paths h = absurd h
    some_paths_weaker (more_paths ps e us) h = (some_weaker ps h.0, weaker e h.1, paths_weaker us h.2)

-- ---- names replaced

pub member_kept : (p : Infix) (a b : Tree) → (is_word a ≡ true → is_word b ≡ true) → is_member_of_word p a ≡ true → is_member_of_word p b ≡ true
member_kept op.In a b f h = f h
member_kept p a b f h = absurd (cc)

names_below : (xs u : List Name) → AreNames xs → AreNames u → AreNames (below xs u)
names_below [] u h g = g
names_below (x ∷ xs) u h g = names_below xs (x ∷ u) h.1 (h.0, g)

names_named : (N : Name → Type 0) (ds : NamedTrees) → NamedFormed N ds → AreNames (names_of ds)
names_named N no_named h = tt
names_named N (more_named x t ts) h = (h.0, names_named N ts h.2)

names_joined : (xs ys : List Name) → AreSomeNames xs → AreNames ys → AreNames (xs ++ ys)
names_joined [] ys h g = absurd h
names_joined (x ∷ xs) ys h g = (h.0, more xs h.1)
  where
    more : (xs : List Name) → AreNames xs → AreNames (xs ++ ys)
    more [] k = g
    more (x ∷ xs) k = (k.0, more xs k.1)

names_in_bound : (N : Name → Type 0) (bs : BoundTrees) → BoundFormed N bs → AreNames (names_bound bs)
names_in_bound N no_bound h = tt
names_in_bound N (more_bound xs r bs) h = names_joined xs (names_bound bs) h.0 (names_in_bound N bs h.2)

some_named : (N : Name → Type 0) (ds : NamedTrees) → SomeNamedFormed N ds → NamedFormed N ds
some_named N no_named h = absurd h
some_named N (more_named x t ts) h = h

some_bound : (N : Name → Type 0) (bs : BoundTrees) → SomeBoundFormed N bs → BoundFormed N bs
some_bound N no_bound h = absurd h
some_bound N (more_bound xs r bs) h = h

-- a name that is bound around is an identifier
pub bound_name : (x : Name) (u : List Name) → AreNames u → is_among x u ≡ true → IsName x
bound_name x [] h e = absurd (cc)
bound_name x (y ∷ ys) h e = go (same_name x y) refl e (bound_name x ys h.1)
  where
    go : (b : Bool) → same_name x y ≡ b → b || is_among x ys ≡ true → (is_among x ys ≡ true → IsName x) → IsName x
    go true s k more = subst IsName (sym (same_name-is x y s)) h.0
    go false s k more = more k

-- what stands for a name that meets N, where identifiers are bound around it, meets M
module _ (N M : Name → Type 0) (f : List Name → Name → Tree) (put : (u : List Name) (x : Name) → AreNames u → N x → Formed M (f u x)) where
  word_replaced : (u : List Name) (r : Tree) → is_word r ≡ true → is_word (replaced f u r) ≡ true
  word_replaced u (word w) h = refl
  word_replaced u r h = absurd (cc)

  mutual
    pub replaced_formed : (u : List Name) → AreNames u → (t : Tree) → Formed N t → Formed M (replaced f u t)
    replaced_formed u a (name x) h = put u x a h
    replaced_formed u a (unary p t) h = replaced_formed u a t h
    replaced_formed u a (binary p x y) h = (replaced_formed u a x h.0, either_way h.1 (member_kept p y (replaced f u y) (word_replaced u y)) (λ k. replaced_formed u a y k))
    replaced_formed u a (product ts) h = two_replaced u a ts h
    replaced_formed u a (cond_of p x y) h = (replaced_formed u a p h.0, replaced_formed u a x h.1, replaced_formed u a y h.2)
    replaced_formed u a (case_of gs) h = some_arms_replaced u a gs h
    replaced_formed u a (case_other gs e) h = (some_arms_replaced u a gs h.0, replaced_formed u a e h.1)
    replaced_formed u a (let_in ds e) h =
        (some_let_replaced u a ds h.0, replaced_formed (below (names_of ds) u) (names_below (names_of ds) u (names_named N ds (some_named N ds h.0)) a) e h.1)
    replaced_formed u a (quantified q bs p) h =
        (some_bound_replaced u a bs h.0, replaced_formed (below (names_bound bs) u) (names_below (names_bound bs) u (names_in_bound N bs (some_bound N bs h.0)) a) p h.1)
    replaced_formed u a (choose x r p) h = (h.0, either_way h.1 (word_replaced u r) (λ k. replaced_formed u a r k), replaced_formed (x ∷ u) (h.0, a) p h.2)
    replaced_formed u a (tuple ts) h = all_replaced u a ts h
    replaced_formed u a (set_of ts) h = all_replaced u a ts h
    replaced_formed u a (filter_of x r p) h = (h.0, either_way h.1 (word_replaced u r) (λ k. replaced_formed u a r k), replaced_formed (x ∷ u) (h.0, a) p h.2)
    replaced_formed u a (image e x r) h = (replaced_formed (x ∷ u) (h.1, a) e h.0, h.1, either_way h.2 (word_replaced u r) (λ k. replaced_formed u a r k))
    replaced_formed u a (fun_of bs e) h =
        (some_bound_replaced u a bs h.0, replaced_formed (below (names_bound bs) u) (names_below (names_bound bs) u (names_in_bound N bs (some_bound N bs h.0)) a) e h.1)
    replaced_formed u a (fun_set x y) h = (replaced_formed u a x h.0, replaced_formed u a y h.1)
    replaced_formed u a (record_of ds) h = some_fields_replaced u a ds h
    replaced_formed u a (record_set ds) h = some_fields_replaced u a ds h
    replaced_formed u a (except t us) h = (replaced_formed u a t h.0, some_paths_replaced u a us h.1)
    replaced_formed u a (index t ts) h = (replaced_formed u a t h.0, some_replaced u a ts h.1)
    replaced_formed u a (field t x) h = (replaced_formed u a t h.0, h.1)
    replaced_formed u a (call x ts) h = (h.0, some_replaced u a ts h.1)
    replaced_formed u a (primed x) h = h
    replaced_formed u a (number z) h = h
    replaced_formed u a (text s) h = h
    replaced_formed u a (truth b) h = h
    replaced_formed u a at h = h
    replaced_formed u a (word w) h = h
    replaced_formed u a (unchanged xs) h = h

    all_replaced : (u : List Name) → AreNames u → (ts : Trees) → AllFormed N ts → AllFormed M (replaced_all f u ts)
    all_replaced u a no_trees h = tt
    all_replaced u a (more_trees t ts) h = (replaced_formed u a t h.0, all_replaced u a ts h.1)

    some_replaced : (u : List Name) → AreNames u → (ts : Trees) → SomeFormed N ts → SomeFormed M (replaced_all f u ts)
    some_replaced u a no_trees h = absurd h
    some_replaced u a (more_trees t ts) h = (replaced_formed u a t h.0, all_replaced u a ts h.1)

    two_replaced : (u : List Name) → AreNames u → (ts : Trees) → TwoFormed N ts → TwoFormed M (replaced_all f u ts)
    two_replaced u a no_trees h = absurd h
    two_replaced u a (more_trees t ts) h = (replaced_formed u a t h.0, some_replaced u a ts h.1)

    fields_replaced : (u : List Name) → AreNames u → (ds : NamedTrees) → NamedFormed N ds → NamedFormed M (replaced_fields f u ds)
    fields_replaced u a no_named h = tt
    fields_replaced u a (more_named x t ts) h = (h.0, replaced_formed u a t h.1, fields_replaced u a ts h.2)

    some_fields_replaced : (u : List Name) → AreNames u → (ds : NamedTrees) → SomeNamedFormed N ds → SomeNamedFormed M (replaced_fields f u ds)
    some_fields_replaced u a no_named h = absurd h
    some_fields_replaced u a (more_named x t ts) h = (h.0, replaced_formed u a t h.1, fields_replaced u a ts h.2)

    let_replaced : (u : List Name) → AreNames u → (ds : NamedTrees) → NamedFormed N ds → NamedFormed M (replaced_let f u ds)
    let_replaced u a no_named h = tt
    let_replaced u a (more_named x t ts) h = (h.0, replaced_formed u a t h.1, let_replaced (x ∷ u) (h.0, a) ts h.2)

    some_let_replaced : (u : List Name) → AreNames u → (ds : NamedTrees) → SomeNamedFormed N ds → SomeNamedFormed M (replaced_let f u ds)
    some_let_replaced u a no_named h = absurd h
    some_let_replaced u a (more_named x t ts) h = (h.0, replaced_formed u a t h.1, let_replaced (x ∷ u) (h.0, a) ts h.2)

    arms_replaced : (u : List Name) → AreNames u → (gs : TreePairs) → ArmsFormed N gs → ArmsFormed M (replaced_arms f u gs)
    arms_replaced u a no_arms h = tt
    arms_replaced u a (more_arms g e gs) h = (replaced_formed u a g h.0, replaced_formed u a e h.1, arms_replaced u a gs h.2)

    some_arms_replaced : (u : List Name) → AreNames u → (gs : TreePairs) → SomeArmsFormed N gs → SomeArmsFormed M (replaced_arms f u gs)
    some_arms_replaced u a no_arms h = absurd h
    some_arms_replaced u a (more_arms g e gs) h = (replaced_formed u a g h.0, replaced_formed u a e h.1, arms_replaced u a gs h.2)

    bound_replaced : (u : List Name) → AreNames u → (bs : BoundTrees) → BoundFormed N bs → BoundFormed M (replaced_bound f u bs)
    bound_replaced u a no_bound h = tt
    bound_replaced u a (more_bound xs r bs) h = (h.0, either_way h.1 (word_replaced u r) (λ k. replaced_formed u a r k), bound_replaced u a bs h.2)

    some_bound_replaced : (u : List Name) → AreNames u → (bs : BoundTrees) → SomeBoundFormed N bs → SomeBoundFormed M (replaced_bound f u bs)
    some_bound_replaced u a no_bound h = absurd h
    some_bound_replaced u a (more_bound xs r bs) h = (h.0, either_way h.1 (word_replaced u r) (λ k. replaced_formed u a r k), bound_replaced u a bs h.2)

    paths_replaced : (u : List Name) → AreNames u → (us : PathTrees) → PathsFormed N us → PathsFormed M (replaced_paths f u us)
    paths_replaced u a no_paths h = tt
    paths_replaced u a (more_paths ps e us) h = (some_replaced u a ps h.0, replaced_formed u a e h.1, paths_replaced u a us h.2)

    some_paths_replaced : (u : List Name) → AreNames u → (us : PathTrees) → SomePathsFormed N us → SomePathsFormed M (replaced_paths f u us)
    some_paths_replaced u a no_paths h = absurd h
    some_paths_replaced u a (more_paths ps e us) h = (some_replaced u a ps h.0, replaced_formed u a e h.1, paths_replaced u a us h.2)

  pub range_replaced : (u : List Name) → AreNames u → (r : Tree) → RangeFormed N r → RangeFormed M (replaced f u r)
  range_replaced u a r h = either_way h (word_replaced u r) (replaced_formed u a r)
