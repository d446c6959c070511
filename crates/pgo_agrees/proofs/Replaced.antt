-- Names replaced by expressions that stand so.
use Rattle.std.proofs.Common.{◌≡◌, Bool, true, false, List, [], ◌∷◌, ◌++◌, refl, ap, sym, subst}
use Rattle.std.specs.Prelude.{◌⊎◌}
use Rattle.pgo_base.specs.Lookup.{Name}
use Rattle.pgo_base.specs.Tree.{Tree, name, primed, number, text, truth, at, word, unary, binary, product, cond_of, case_of, case_other, let_in, quantified, choose, tuple, set_of, filter_of, image, fun_of, fun_set, record_of, record_set, except, index, field, call, unchanged, Trees, no_trees, more_trees, NamedTrees, no_named, more_named, TreePairs, no_arms, more_arms, BoundTrees, no_bound, more_bound, PathTrees, no_paths, more_paths}
use Rattle.pgo_model.specs.Names.{is_among}
use Rattle.pgo_sections.specs.Bound.{names_of, names_bound, below}
use Rattle.pgo_sections.specs.Plain.{All}
use Rattle.pgo_sections.specs.Replaced.{replaced, replaced_all, replaced_arms, replaced_fields, replaced_let, replaced_bound, replaced_paths}
use Rattle.pgo_agrees.proofs.Stands.{Stands, AllStand, ArmsStand, FieldsStand, LetStand, BoundStand, PathsStand, Meet, meet_one, meet_below, let_all, bound_all}

module _ (f : List Name → Name → Tree) where
  let_names : (u : List Name) (ds : NamedTrees) → names_of (replaced_let f u ds) ≡ names_of ds
  let_names u no_named = refl
  let_names u (more_named x t ds) = ap (λ ns. x ∷ ns) (let_names (x ∷ u) ds)

  bound_names : (u : List Name) (bs : BoundTrees) → names_bound (replaced_bound f u bs) ≡ names_bound bs
  bound_names u no_bound = refl
  bound_names u (more_bound xs r bs) = ap (λ ns. xs ++ ns) (bound_names u bs)

  module _ (N : Bool → Bool → Name → Type 0) (C B : Name → Type 0) (M : Bool → Bool → Name → Type 0) (D A : Name → Type 0) (n : (u : List Name) (h i : Bool) (x : Name) → Meet B u → (is_among x u ≡ true) ⊎ N h i x → Stands M D A u h i (f u x)) (c : (x : Name) → C x → D x) (b : (x : Name) → B x → A x) where
    all_bound : (xs : List Name) → All B xs → All A xs
    all_bound [] g = tt
    all_bound (x ∷ xs) g = (b x g.0, all_bound xs g.1)

    mutual
      pub put : (u : List Name) (h i : Bool) (t : Tree) → Meet B u → Stands N C B u h i t → Stands M D A u h i (replaced f u t)
      put u h i (name x) a g = n u h i x a g
      put u h i (primed x) a g = absurd g
      put u h i (number z) a g = tt
      put u h i (text s) a g = tt
      put u h i (truth q) a g = tt
      put u h i at a g = tt
      put u h i (word w) a g = tt
      put u h i (unary o e) a g = put u h false e a g
      put u h i (binary o d e) a g = (put u h false d a g.0, put u h false e a g.1)
      put u h i (product ts) a g = put_all u h ts a g
      put u h i (cond_of p d e) a g = (put u h false p a g.0, put u true false d a g.1, put u true false e a g.2)
      put u h i (case_of gs) a g = put_arms u h gs a g
      put u h i (case_other gs e) a g = (put_arms u h gs a g.0, put u true false e a g.1)
      put u h i (let_in ds e) a g =
          (put_let u ds a g.0, subst (λ ns. Stands M D A (below ns u) true false (replaced f (below (names_of ds) u) e)) (sym (let_names u ds)) (put (below (names_of ds) u) true false e (meet_below B (names_of ds) u (let_all N C B u ds g.0) a) g.1))
      put u h i (quantified q bs p) a g =
          (put_bound u h bs a g.0, subst (λ ns. Stands M D A (below ns u) true false (replaced f (below (names_bound bs) u) p)) (sym (bound_names u bs)) (put (below (names_bound bs) u) true false p (meet_below B (names_bound bs) u (bound_all N C B u h bs g.0) a) g.1))
      put u h i (choose x r p) a g = (b x g.0, put u h false r a g.1, put (x ∷ u) true false p (meet_one B x u g.0 a) g.2)
      put u h i (tuple ts) a g = put_all u h ts a g
      put u h i (set_of ts) a g = put_all u h ts a g
      put u h i (filter_of x r p) a g = (b x g.0, put u h false r a g.1, put (x ∷ u) true false p (meet_one B x u g.0 a) g.2)
      put u h i (image e x r) a g = (b x g.0, put u h false r a g.1, put (x ∷ u) true false e (meet_one B x u g.0 a) g.2)
      put u h i (fun_of bs e) a g =
          (put_bound u h bs a g.0, subst (λ ns. Stands M D A (below ns u) true false (replaced f (below (names_bound bs) u) e)) (sym (bound_names u bs)) (put (below (names_bound bs) u) true false e (meet_below B (names_bound bs) u (bound_all N C B u h bs g.0) a) g.1))
      put u h i (fun_set d e) a g = (put u h false d a g.0, put u h false e a g.1)
      put u h i (record_of ds) a g = put_fields u h ds a g
      put u h i (record_set ds) a g = put_fields u h ds a g
      put u h i (except t us) a g = (put u h false t a g.0, put_paths u h us a g.1)
      put u h i (index t no_trees) a g = (put u h false t a g.0, tt)
      put u h i (index t (more_trees q no_trees)) a g = (put u h true t a g.0, put_all u h (more_trees q no_trees) a g.1)
      put u h i (index t (more_trees q (more_trees w ws))) a g = (put u h false t a g.0, put_all u h (more_trees q (more_trees w ws)) a g.1)
      put u h i (field r x) a g = put u h false r a g
      put u h i (call x ts) a g = (c x g.0, put_all u h ts a g.1)
      put u h i (unchanged xs) a g = absurd g

      put_all : (u : List Name) (h : Bool) (ts : Trees) → Meet B u → AllStand N C B u h ts → AllStand M D A u h (replaced_all f u ts)
      put_all u h no_trees a g = tt
      put_all u h (more_trees t ts) a g = (put u h false t a g.0, put_all u h ts a g.1)

      put_arms : (u : List Name) (h : Bool) (gs : TreePairs) → Meet B u → ArmsStand N C B u h gs → ArmsStand M D A u h (replaced_arms f u gs)
      put_arms u h no_arms a g = tt
      put_arms u h (more_arms d e gs) a g = (put u h false d a g.0, put u true false e a g.1, put_arms u true gs a g.2)

      put_fields : (u : List Name) (h : Bool) (ds : NamedTrees) → Meet B u → FieldsStand N C B u h ds → FieldsStand M D A u h (replaced_fields f u ds)
      put_fields u h no_named a g = tt
      put_fields u h (more_named x t ts) a g = (put u h false t a g.0, put_fields u h ts a g.1)

      put_let : (u : List Name) (ds : NamedTrees) → Meet B u → LetStand N C B u ds → LetStand M D A u (replaced_let f u ds)
      put_let u no_named a g = tt
      put_let u (more_named x t ts) a g = (b x g.0, put u true false t a g.1, put_let (x ∷ u) ts (meet_one B x u g.0 a) g.2)

      put_bound : (u : List Name) (h : Bool) (bs : BoundTrees) → Meet B u → BoundStand N C B u h bs → BoundStand M D A u h (replaced_bound f u bs)
      put_bound u h no_bound a g = tt
      put_bound u h (more_bound xs r bs) a g = (all_bound xs g.0, put u h false r a g.1, put_bound u h bs a g.2)

      put_paths : (u : List Name) (h : Bool) (us : PathTrees) → Meet B u → PathsStand N C B u h us → PathsStand M D A u h (replaced_paths f u us)
      put_paths u h no_paths a g = tt
      put_paths u h (more_paths ps e us) a g = (put_all u h ps a g.0, put u h false e a g.1, put_paths u h us a g.2)
