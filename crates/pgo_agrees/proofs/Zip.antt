-- What stands so by two conditions: the one of names wherever they stand, the other where they stand here.
use Rattle.std.proofs.Common.{◌≡◌, Bool, true, false, List, ◌∷◌, inl, inr}
use Rattle.std.specs.Prelude.{◌⊎◌}
use Rattle.pgo_base.specs.Lookup.{Name}
use Rattle.pgo_base.specs.Tree.{Tree, name, primed, number, text, truth, at, word, unary, binary, product, cond_of, case_of, case_other, let_in, quantified, choose, tuple, set_of, filter_of, image, fun_of, fun_set, record_of, record_set, except, index, field, call, unchanged, Trees, no_trees, more_trees, NamedTrees, no_named, more_named, TreePairs, no_arms, more_arms, BoundTrees, no_bound, more_bound, PathTrees, no_paths, more_paths}
use Rattle.pgo_model.specs.Names.{is_among}
use Rattle.pgo_sections.specs.Bound.{names_of, names_bound, below}
use Rattle.pgo_agrees.proofs.Stands.{is_one, Stands, AllStand, ArmsStand, FieldsStand, LetStand, BoundStand, PathsStand}

module _ (N : Bool → Bool → Name → Type 0) (C B : Name → Type 0) (M : Bool → Bool → Name → Type 0) (D A : Name → Type 0) (L : Bool → Bool → Name → Type 0) (n : (j l h i : Bool) (x : Name) → N j l x → M h i x → L h i x) where
  both_stand : (u : List Name) (j l h i : Bool) (x : Name) → (is_among x u ≡ true) ⊎ N j l x → (is_among x u ≡ true) ⊎ M h i x → (is_among x u ≡ true) ⊎ L h i x
  both_stand u j l h i x (inl e) g = inl e
  both_stand u j l h i x (inr f) (inl e) = inl e
  both_stand u j l h i x (inr f) (inr g) = inr (n j l h i x f g)

  mutual
    pub zip : (u : List Name) (j l h i : Bool) (t : Tree) → Stands N C B u j l t → Stands M D A u h i t → Stands L C B u h i t
    zip u j l h i (name x) f g = both_stand u j l h i x f g
    zip u j l h i (primed x) f g = absurd f
    zip u j l h i (number z) f g = tt
    zip u j l h i (text s) f g = tt
    zip u j l h i (truth q) f g = tt
    zip u j l h i at f g = tt
    zip u j l h i (word w) f g = tt
    zip u j l h i (unary o e) f g = zip u j false h false e f g
    zip u j l h i (binary o d e) f g = (zip u j false h false d f.0 g.0, zip u j false h false e f.1 g.1)
    zip u j l h i (product ts) f g = zip_all u j h ts f g
    zip u j l h i (cond_of p d e) f g = (zip u j false h false p f.0 g.0, zip u true false true false d f.1 g.1, zip u true false true false e f.2 g.2)
    zip u j l h i (case_of gs) f g = zip_arms u j h gs f g
    zip u j l h i (case_other gs e) f g = (zip_arms u j h gs f.0 g.0, zip u true false true false e f.1 g.1)
    zip u j l h i (let_in ds e) f g = (zip_let u ds f.0 g.0, zip (below (names_of ds) u) true false true false e f.1 g.1)
    zip u j l h i (quantified q bs p) f g = (zip_bound u j h bs f.0 g.0, zip (below (names_bound bs) u) true false true false p f.1 g.1)
    zip u j l h i (choose x r p) f g = (f.0, zip u j false h false r f.1 g.1, zip (x ∷ u) true false true false p f.2 g.2)
    zip u j l h i (tuple ts) f g = zip_all u j h ts f g
    zip u j l h i (set_of ts) f g = zip_all u j h ts f g
    zip u j l h i (filter_of x r p) f g = (f.0, zip u j false h false r f.1 g.1, zip (x ∷ u) true false true false p f.2 g.2)
    zip u j l h i (image e x r) f g = (f.0, zip u j false h false r f.1 g.1, zip (x ∷ u) true false true false e f.2 g.2)
    zip u j l h i (fun_of bs e) f g = (zip_bound u j h bs f.0 g.0, zip (below (names_bound bs) u) true false true false e f.1 g.1)
    zip u j l h i (fun_set d e) f g = (zip u j false h false d f.0 g.0, zip u j false h false e f.1 g.1)
    zip u j l h i (record_of ds) f g = zip_fields u j h ds f g
    zip u j l h i (record_set ds) f g = zip_fields u j h ds f g
    zip u j l h i (except d us) f g = (zip u j false h false d f.0 g.0, zip_paths u j h us f.1 g.1)
    zip u j l h i (index d ts) f g = (zip u j (is_one ts) h (is_one ts) d f.0 g.0, zip_all u j h ts f.1 g.1)
    zip u j l h i (field r x) f g = zip u j false h false r f g
    zip u j l h i (call x ts) f g = (f.0, zip_all u j h ts f.1 g.1)
    zip u j l h i (unchanged xs) f g = absurd f

    zip_all : (u : List Name) (j h : Bool) (ts : Trees) → AllStand N C B u j ts → AllStand M D A u h ts → AllStand L C B u h ts
    zip_all u j h no_trees f g = tt
    zip_all u j h (more_trees t ts) f g = (zip u j false h false t f.0 g.0, zip_all u j h ts f.1 g.1)

    zip_arms : (u : List Name) (j h : Bool) (gs : TreePairs) → ArmsStand N C B u j gs → ArmsStand M D A u h gs → ArmsStand L C B u h gs
    zip_arms u j h no_arms f g = tt
    zip_arms u j h (more_arms d e gs) f g = (zip u j false h false d f.0 g.0, zip u true false true false e f.1 g.1, zip_arms u true true gs f.2 g.2)

    zip_fields : (u : List Name) (j h : Bool) (ds : NamedTrees) → FieldsStand N C B u j ds → FieldsStand M D A u h ds → FieldsStand L C B u h ds
    zip_fields u j h no_named f g = tt
    zip_fields u j h (more_named x t ts) f g = (zip u j false h false t f.0 g.0, zip_fields u j h ts f.1 g.1)

    zip_let : (u : List Name) (ds : NamedTrees) → LetStand N C B u ds → LetStand M D A u ds → LetStand L C B u ds
    zip_let u no_named f g = tt
    zip_let u (more_named x t ts) f g = (f.0, zip u true false true false t f.1 g.1, zip_let (x ∷ u) ts f.2 g.2)

    zip_bound : (u : List Name) (j h : Bool) (bs : BoundTrees) → BoundStand N C B u j bs → BoundStand M D A u h bs → BoundStand L C B u h bs
    zip_bound u j h no_bound f g = tt
    zip_bound u j h (more_bound xs r bs) f g = (f.0, zip u j false h false r f.1 g.1, zip_bound u j h bs f.2 g.2)

    zip_paths : (u : List Name) (j h : Bool) (us : PathTrees) → PathsStand N C B u j us → PathsStand M D A u h us → PathsStand L C B u h us
    zip_paths u j h no_paths f g = tt
    zip_paths u j h (more_paths ps e us) f g = (zip_all u j h ps f.0 g.0, zip u j false h false e f.1 g.1, zip_paths u j h us f.2 g.2)

-- what is asked of names wherever they stand is asked of them in each place
module _ (I : Name → Type 0) (C B : Name → Type 0) where
  mutual
    any_of : (u : List Name) (j l h i : Bool) (t : Tree) → Stands (λ h i. I) C B u j l t → Stands (λ h i. I) C B u h i t
    any_of u j l h i (name x) f = f
    any_of u j l h i (primed x) f = absurd f
    any_of u j l h i (number z) f = tt
    any_of u j l h i (text s) f = tt
    any_of u j l h i (truth q) f = tt
    any_of u j l h i at f = tt
    any_of u j l h i (word w) f = tt
    any_of u j l h i (unary o e) f = any_of u j false h false e f
    any_of u j l h i (binary o d e) f = (any_of u j false h false d f.0, any_of u j false h false e f.1)
    any_of u j l h i (product ts) f = any_of_all u j h ts f
    any_of u j l h i (cond_of p d e) f = (any_of u j false h false p f.0, any_of u true false true false d f.1, any_of u true false true false e f.2)
    any_of u j l h i (case_of gs) f = any_of_arms u j h gs f
    any_of u j l h i (case_other gs e) f = (any_of_arms u j h gs f.0, any_of u true false true false e f.1)
    any_of u j l h i (let_in ds e) f = (any_of_let u ds f.0, any_of (below (names_of ds) u) true false true false e f.1)
    any_of u j l h i (quantified q bs p) f = (any_of_bound u j h bs f.0, any_of (below (names_bound bs) u) true false true false p f.1)
    any_of u j l h i (choose x r p) f = (f.0, any_of u j false h false r f.1, any_of (x ∷ u) true false true false p f.2)
    any_of u j l h i (tuple ts) f = any_of_all u j h ts f
    any_of u j l h i (set_of ts) f = any_of_all u j h ts f
    any_of u j l h i (filter_of x r p) f = (f.0, any_of u j false h false r f.1, any_of (x ∷ u) true false true false p f.2)
    any_of u j l h i (image e x r) f = (f.0, any_of u j false h false r f.1, any_of (x ∷ u) true false true false e f.2)
    any_of u j l h i (fun_of bs e) f = (any_of_bound u j h bs f.0, any_of (below (names_bound bs) u) true false true false e f.1)
    any_of u j l h i (fun_set d e) f = (any_of u j false h false d f.0, any_of u j false h false e f.1)
    any_of u j l h i (record_of ds) f = any_of_fields u j h ds f
    any_of u j l h i (record_set ds) f = any_of_fields u j h ds f
    any_of u j l h i (except d us) f = (any_of u j false h false d f.0, any_of_paths u j h us f.1)
    any_of u j l h i (index d ts) f = (any_of u j (is_one ts) h (is_one ts) d f.0, any_of_all u j h ts f.1)
    any_of u j l h i (field r x) f = any_of u j false h false r f
    any_of u j l h i (call x ts) f = (f.0, any_of_all u j h ts f.1)
    any_of u j l h i (unchanged xs) f = absurd f

    any_of_all : (u : List Name) (j h : Bool) (ts : Trees) → AllStand (λ h i. I) C B u j ts → AllStand (λ h i. I) C B u h ts
    any_of_all u j h no_trees f = tt
    any_of_all u j h (more_trees t ts) f = (any_of u j false h false t f.0, any_of_all u j h ts f.1)

    any_of_arms : (u : List Name) (j h : Bool) (gs : TreePairs) → ArmsStand (λ h i. I) C B u j gs → ArmsStand (λ h i. I) C B u h gs
    any_of_arms u j h no_arms f = tt
    any_of_arms u j h (more_arms d e gs) f = (any_of u j false h false d f.0, any_of u true false true false e f.1, any_of_arms u true true gs f.2)

    any_of_fields : (u : List Name) (j h : Bool) (ds : NamedTrees) → FieldsStand (λ h i. I) C B u j ds → FieldsStand (λ h i. I) C B u h ds
    any_of_fields u j h no_named f = tt
    any_of_fields u j h (more_named x t ts) f = (any_of u j false h false t f.0, any_of_fields u j h ts f.1)

    any_of_let : (u : List Name) (ds : NamedTrees) → LetStand (λ h i. I) C B u ds → LetStand (λ h i. I) C B u ds
    any_of_let u no_named f = tt
    any_of_let u (more_named x t ts) f = (f.0, any_of u true false true false t f.1, any_of_let (x ∷ u) ts f.2)

    any_of_bound : (u : List Name) (j h : Bool) (bs : BoundTrees) → BoundStand (λ h i. I) C B u j bs → BoundStand (λ h i. I) C B u h bs
    any_of_bound u j h no_bound f = tt
    any_of_bound u j h (more_bound xs r bs) f = (f.0, any_of u j false h false r f.1, any_of_bound u j h bs f.2)

    any_of_paths : (u : List Name) (j h : Bool) (us : PathTrees) → PathsStand (λ h i. I) C B u j us → PathsStand (λ h i. I) C B u h us
    any_of_paths u j h no_paths f = tt
    any_of_paths u j h (more_paths ps e us) f = (any_of_all u j h ps f.0, any_of u j false h false e f.1, any_of_paths u j h us f.2)

  pub any_flags : (u : List Name) (j l h i : Bool) (t : Tree) → Stands (λ h i. I) C B u j l t → Stands (λ h i. I) C B u h i t
  any_flags u j l h i t f = any_of u j l h i t f
