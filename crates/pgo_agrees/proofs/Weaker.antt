-- What stands so stands so with weaker conditions, and with more names above.
use Rattle.std.proofs.Common.{◌≡◌, Bool, true, false, List, [], ◌∷◌, inl, inr}
use Rattle.std.specs.Prelude.{◌⊎◌}
use Rattle.pgo_base.specs.Lookup.{Name}
use Rattle.pgo_base.specs.Tree.{Tree, name, primed, number, text, truth, at, word, unary, binary, product, cond_of, case_of, case_other, let_in, quantified, choose, tuple, set_of, filter_of, image, fun_of, fun_set, record_of, record_set, except, index, field, call, unchanged, Trees, no_trees, more_trees, NamedTrees, no_named, more_named, TreePairs, no_arms, more_arms, BoundTrees, no_bound, more_bound, PathTrees, no_paths, more_paths}
use Rattle.pgo_model.specs.Names.{is_among}
use Rattle.pgo_sections.specs.Bound.{names_of, names_bound, below}
use Rattle.pgo_sections.specs.Plain.{All, Plain, PlainAll, PlainArms, PlainFields, PlainLet, PlainBound, PlainPaths}
use Rattle.pgo_agrees.proofs.Stands.{is_one, Stands, AllStand, ArmsStand, FieldsStand, LetStand, BoundStand, PathsStand, Meet, meet_one, meet_below, Above, above_one, above_below, let_all, bound_all}

module _ (N : Bool → Bool → Name → Type 0) (C B : Name → Type 0) (M : Bool → Bool → Name → Type 0) (D A : Name → Type 0) (n : (h i : Bool) (x : Name) → N h i x → M h i x) (c : (x : Name) → C x → D x) (b : (x : Name) → B x → A x) where
  all_bound : (xs : List Name) → All B xs → All A xs
  all_bound [] g = tt
  all_bound (x ∷ xs) g = (b x g.0, all_bound xs g.1)

  stood : (u v : List Name) (h i : Bool) (x : Name) → Above u v → (is_among x u ≡ true) ⊎ N h i x → (is_among x v ≡ true) ⊎ M h i x
  stood u v h i x a (inl e) = inl (a x e)
  stood u v h i x a (inr g) = inr (n h i x g)

  mutual
    pub weaker : (u v : List Name) (h i : Bool) (t : Tree) → Above u v → Stands N C B u h i t → Stands M D A v h i t
    weaker u v h i (name x) a g = stood u v h i x a g
    weaker u v h i (primed x) a g = absurd g
    weaker u v h i (number z) a g = tt
    weaker u v h i (text s) a g = tt
    weaker u v h i (truth q) a g = tt
    weaker u v h i at a g = tt
    weaker u v h i (word w) a g = tt
    weaker u v h i (unary o e) a g = weaker u v h false e a g
    weaker u v h i (binary o d e) a g = (weaker u v h false d a g.0, weaker u v h false e a g.1)
    weaker u v h i (product ts) a g = weaker_all u v h ts a g
    weaker u v h i (cond_of p d e) a g = (weaker u v h false p a g.0, weaker u v true false d a g.1, weaker u v true false e a g.2)
    weaker u v h i (case_of gs) a g = weaker_arms u v h gs a g
    weaker u v h i (case_other gs e) a g = (weaker_arms u v h gs a g.0, weaker u v true false e a g.1)
    weaker u v h i (let_in ds e) a g =
        (weaker_let u v ds a g.0, weaker (below (names_of ds) u) (below (names_of ds) v) true false e (above_below (names_of ds) u v a) g.1)
    weaker u v h i (quantified q bs p) a g =
        (weaker_bound u v h bs a g.0, weaker (below (names_bound bs) u) (below (names_bound bs) v) true false p (above_below (names_bound bs) u v a) g.1)
    weaker u v h i (choose x r p) a g = (b x g.0, weaker u v h false r a g.1, weaker (x ∷ u) (x ∷ v) true false p (above_one x u v a) g.2)
    weaker u v h i (tuple ts) a g = weaker_all u v h ts a g
    weaker u v h i (set_of ts) a g = weaker_all u v h ts a g
    weaker u v h i (filter_of x r p) a g = (b x g.0, weaker u v h false r a g.1, weaker (x ∷ u) (x ∷ v) true false p (above_one x u v a) g.2)
    weaker u v h i (image e x r) a g = (b x g.0, weaker u v h false r a g.1, weaker (x ∷ u) (x ∷ v) true false e (above_one x u v a) g.2)
    weaker u v h i (fun_of bs e) a g =
        (weaker_bound u v h bs a g.0, weaker (below (names_bound bs) u) (below (names_bound bs) v) true false e (above_below (names_bound bs) u v a) g.1)
    weaker u v h i (fun_set d e) a g = (weaker u v h false d a g.0, weaker u v h false e a g.1)
    weaker u v h i (record_of ds) a g = weaker_fields u v h ds a g
    weaker u v h i (record_set ds) a g = weaker_fields u v h ds a g
    weaker u v h i (except f us) a g = (weaker u v h false f a g.0, weaker_paths u v h us a g.1)
    weaker u v h i (index f ts) a g = (weaker u v h (is_one ts) f a g.0, weaker_all u v h ts a g.1)
    weaker u v h i (field r x) a g = weaker u v h false r a g
    weaker u v h i (call x ts) a g = (c x g.0, weaker_all u v h ts a g.1)
    weaker u v h i (unchanged xs) a g = absurd g

    weaker_all : (u v : List Name) (h : Bool) (ts : Trees) → Above u v → AllStand N C B u h ts → AllStand M D A v h ts
    weaker_all u v h no_trees a g = tt
    weaker_all u v h (more_trees t ts) a g = (weaker u v h false t a g.0, weaker_all u v h ts a g.1)

    weaker_arms : (u v : List Name) (h : Bool) (gs : TreePairs) → Above u v → ArmsStand N C B u h gs → ArmsStand M D A v h gs
    weaker_arms u v h no_arms a g = tt
    weaker_arms u v h (more_arms d e gs) a g = (weaker u v h false d a g.0, weaker u v true false e a g.1, weaker_arms u v true gs a g.2)

    weaker_fields : (u v : List Name) (h : Bool) (ds : NamedTrees) → Above u v → FieldsStand N C B u h ds → FieldsStand M D A v h ds
    weaker_fields u v h no_named a g = tt
    weaker_fields u v h (more_named x t ts) a g = (weaker u v h false t a g.0, weaker_fields u v h ts a g.1)

    weaker_let : (u v : List Name) (ds : NamedTrees) → Above u v → LetStand N C B u ds → LetStand M D A v ds
    weaker_let u v no_named a g = tt
    weaker_let u v (more_named x t ts) a g = (b x g.0, weaker u v true false t a g.1, weaker_let (x ∷ u) (x ∷ v) ts (above_one x u v a) g.2)

    weaker_bound : (u v : List Name) (h : Bool) (bs : BoundTrees) → Above u v → BoundStand N C B u h bs → BoundStand M D A v h bs
    weaker_bound u v h no_bound a g = tt
    weaker_bound u v h (more_bound xs r bs) a g = (all_bound xs g.0, weaker u v h false r a g.1, weaker_bound u v h bs a g.2)

    weaker_paths : (u v : List Name) (h : Bool) (us : PathTrees) → Above u v → PathsStand N C B u h us → PathsStand M D A v h us
    weaker_paths u v h no_paths a g = tt
    weaker_paths u v h (more_paths ps e us) a g = (weaker_all u v h ps a g.0, weaker u v h false e a g.1, weaker_paths u v h us a g.2)

-- ---- where the conditions are of a name alone, wherever it stands; names that the expression binds meet it too
module _ (N : Bool → Bool → Name → Type 0) (C B M D A : Name → Type 0) (n : (h i : Bool) (x : Name) → N h i x → M x) (c : (x : Name) → C x → D x) (b : (x : Name) → B x → A x) (bm : (x : Name) → B x → M x) where
  bound_plain : (xs : List Name) → All B xs → All A xs
  bound_plain [] g = tt
  bound_plain (x ∷ xs) g = (b x g.0, bound_plain xs g.1)

  stays : (u : List Name) (h i : Bool) (x : Name) → Meet B u → (is_among x u ≡ true) ⊎ N h i x → M x
  stays u h i x a (inl e) = bm x (a x e)
  stays u h i x a (inr g) = n h i x g

  mutual
    pub plain : (u : List Name) (h i : Bool) (t : Tree) → Meet B u → Stands N C B u h i t → Plain M D A t
    plain u h i (name x) a g = stays u h i x a g
    plain u h i (primed x) a g = absurd g
    plain u h i (number z) a g = tt
    plain u h i (text s) a g = tt
    plain u h i (truth q) a g = tt
    plain u h i at a g = tt
    plain u h i (word w) a g = tt
    plain u h i (unary o e) a g = plain u h false e a g
    plain u h i (binary o d e) a g = (plain u h false d a g.0, plain u h false e a g.1)
    plain u h i (product ts) a g = plain_all u h ts a g
    plain u h i (cond_of p d e) a g = (plain u h false p a g.0, plain u true false d a g.1, plain u true false e a g.2)
    plain u h i (case_of gs) a g = plain_arms u h gs a g
    plain u h i (case_other gs e) a g = (plain_arms u h gs a g.0, plain u true false e a g.1)
    plain u h i (let_in ds e) a g =
        (plain_let u ds a g.0, plain (below (names_of ds) u) true false e (meet_below B (names_of ds) u (let_all N C B u ds g.0) a) g.1)
    plain u h i (quantified q bs p) a g =
        (plain_bound u h bs a g.0, plain (below (names_bound bs) u) true false p (meet_below B (names_bound bs) u (bound_all N C B u h bs g.0) a) g.1)
    plain u h i (choose x r p) a g = (b x g.0, plain u h false r a g.1, plain (x ∷ u) true false p (meet_one B x u g.0 a) g.2)
    plain u h i (tuple ts) a g = plain_all u h ts a g
    plain u h i (set_of ts) a g = plain_all u h ts a g
    plain u h i (filter_of x r p) a g = (b x g.0, plain u h false r a g.1, plain (x ∷ u) true false p (meet_one B x u g.0 a) g.2)
    plain u h i (image e x r) a g = (b x g.0, plain u h false r a g.1, plain (x ∷ u) true false e (meet_one B x u g.0 a) g.2)
    plain u h i (fun_of bs e) a g =
        (plain_bound u h bs a g.0, plain (below (names_bound bs) u) true false e (meet_below B (names_bound bs) u (bound_all N C B u h bs g.0) a) g.1)
    plain u h i (fun_set d e) a g = (plain u h false d a g.0, plain u h false e a g.1)
    plain u h i (record_of ds) a g = plain_fields u h ds a g
    plain u h i (record_set ds) a g = plain_fields u h ds a g
    plain u h i (except f us) a g = (plain u h false f a g.0, plain_paths u h us a g.1)
    plain u h i (index f ts) a g = (plain u h (is_one ts) f a g.0, plain_all u h ts a g.1)
    plain u h i (field r x) a g = plain u h false r a g
    plain u h i (call x ts) a g = (c x g.0, plain_all u h ts a g.1)
    plain u h i (unchanged xs) a g = absurd g

    plain_all : (u : List Name) (h : Bool) (ts : Trees) → Meet B u → AllStand N C B u h ts → PlainAll M D A ts
    plain_all u h no_trees a g = tt
    plain_all u h (more_trees t ts) a g = (plain u h false t a g.0, plain_all u h ts a g.1)

    plain_arms : (u : List Name) (h : Bool) (gs : TreePairs) → Meet B u → ArmsStand N C B u h gs → PlainArms M D A gs
    plain_arms u h no_arms a g = tt
    plain_arms u h (more_arms d e gs) a g = (plain u h false d a g.0, plain u true false e a g.1, plain_arms u true gs a g.2)

    plain_fields : (u : List Name) (h : Bool) (ds : NamedTrees) → Meet B u → FieldsStand N C B u h ds → PlainFields M D A ds
    plain_fields u h no_named a g = tt
    plain_fields u h (more_named x t ts) a g = (plain u h false t a g.0, plain_fields u h ts a g.1)

    plain_let : (u : List Name) (ds : NamedTrees) → Meet B u → LetStand N C B u ds → PlainLet M D A ds
    plain_let u no_named a g = tt
    plain_let u (more_named x t ts) a g = (b x g.0, plain u true false t a g.1, plain_let (x ∷ u) ts (meet_one B x u g.0 a) g.2)

    plain_bound : (u : List Name) (h : Bool) (bs : BoundTrees) → Meet B u → BoundStand N C B u h bs → PlainBound M D A bs
    plain_bound u h no_bound a g = tt
    plain_bound u h (more_bound xs r bs) a g = (bound_plain xs g.0, plain u h false r a g.1, plain_bound u h bs a g.2)

    plain_paths : (u : List Name) (h : Bool) (us : PathTrees) → Meet B u → PathsStand N C B u h us → PlainPaths M D A us
    plain_paths u h no_paths a g = tt
    plain_paths u h (more_paths ps e us) a g = (plain_all u h ps a g.0, plain u h false e a g.1, plain_paths u h us a g.2)
