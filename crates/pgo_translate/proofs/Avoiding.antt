-- An expression in which other expressions stand for names avoids bad names, where its names are well formed.
use Rattle.std.proofs.Common.{◌≡◌, Bool, true, false, ◌||◌, if◌then◌else◌, List, [], ◌∷◌, ◌++◌, refl, ap, ◌∙◌}
use Rattle.pgo_base.specs.Lookup.{Name, same_name}
use Rattle.pgo_model.specs.Names.{same_name-is, is_among}
use Rattle.pgo_base.specs.Tree.{Tree, name, primed, number, text, truth, at, word, unary, binary, product, cond_of, case_of, case_other, let_in, quantified, choose, tuple, set_of, filter_of, image, fun_of, fun_set, record_of, record_set, except, index, field, call, unchanged, Trees, no_trees, more_trees, NamedTrees, no_named, more_named, TreePairs, no_arms, more_arms, BoundTrees, no_bound, more_bound, PathTrees, no_paths, more_paths}
use Rattle.pgo_sections.specs.Plain.{All, Plain, PlainAll, PlainArms, PlainFields, PlainLet, PlainBound, PlainPaths}
use Rattle.pgo_sections.specs.Replaced.{replaced, replaced_all, replaced_arms, replaced_fields, replaced_let, replaced_bound, replaced_paths}
use Rattle.pgo_sections.specs.Bound.{names_of, names_bound, below}
use Rattle.pgo_translate.specs.Avoids.{Good, Free, Avoids}

all_free : (xs : List Name) → All Free xs
all_free [] = tt
all_free (x ∷ xs) = (tt, all_free xs)

all_append : (B : Name → Type 0) (xs ys : List Name) → All B xs → All B ys → All B (xs ++ ys)
all_append B [] ys h g = g
all_append B (x ∷ xs) ys h g = (h.0, all_append B xs ys h.1 g)

module _ (N C B : Name → Type 0) (bad : Name → Bool) (g : Name → Tree) (good : (x : Name) → N x → Avoids bad (g x)) (called : (x : Name) → C x → bad x ≡ false) (bindable : (x : Name) → B x → bad x ≡ false) where
  -- what is bound around it is no bad name
  abbrev pub Under : List Name → Type 0
  Under under = (x : Name) → is_among x under ≡ true → bad x ≡ false

  abbrev pub put_for : List Name → Name → Tree
  put_for under x = if is_among x under then name x else g x

  cons_under : (x : Name) (under : List Name) → bad x ≡ false → Under under → Under (x ∷ under)
  cons_under x under h u y m = go (same_name y x) refl m
    where
      go : (b : Bool) → same_name y x ≡ b → b || is_among y under ≡ true → bad y ≡ false
      go true e k = ap bad (same_name-is y x e) ∙ h
      go false e k = u y k

  below_under : (xs under : List Name) → All B xs → Under under → Under (below xs under)
  below_under [] under h u = u
  below_under (x ∷ xs) under h u = below_under xs (x ∷ under) h.1 (cons_under x under (bindable x h.0) u)

  let_names : (ds : NamedTrees) → PlainLet N C B ds → All B (names_of ds)
  let_names no_named h = tt
  let_names (more_named x t ts) h = (h.0, let_names ts h.2)

  bound_names : (bs : BoundTrees) → PlainBound N C B bs → All B (names_bound bs)
  bound_names no_bound h = tt
  bound_names (more_bound xs r bs) h = all_append B xs (names_bound bs) h.0 (bound_names bs h.2)

  name_avoids : (x : Name) (under : List Name) → Under under → N x → Avoids bad (put_for under x)
  name_avoids x under u h = go (is_among x under) refl
    where
      go : (b : Bool) → is_among x under ≡ b → Avoids bad (if b then name x else g x)
      go true e = u x e
      go false e = good x h

  mutual
    pub plain_avoids : (e : Tree) (under : List Name) → Under under → Plain N C B e → Avoids bad (replaced put_for under e)
    plain_avoids (name x) under u h = name_avoids x under u h
    plain_avoids (primed x) under u h = h
    plain_avoids (number z) under u h = tt
    plain_avoids (text s) under u h = tt
    plain_avoids (truth b) under u h = tt
    plain_avoids at under u h = tt
    plain_avoids (word w) under u h = tt
    plain_avoids (unary o a) under u h = plain_avoids a under u h
    plain_avoids (binary o a b) under u h = (plain_avoids a under u h.0, plain_avoids b under u h.1)
    plain_avoids (product ts) under u h = all_avoid ts under u h
    plain_avoids (cond_of p a b) under u h = (plain_avoids p under u h.0, plain_avoids a under u h.1, plain_avoids b under u h.2)
    plain_avoids (case_of gs) under u h = arms_avoid gs under u h
    plain_avoids (case_other gs e) under u h = (arms_avoid gs under u h.0, plain_avoids e under u h.1)
    plain_avoids (let_in ds e) under u h = (let_avoid ds under u h.0, plain_avoids e (below (names_of ds) under) (below_under (names_of ds) under (let_names ds h.0) u) h.1)
    plain_avoids (quantified q bs p) under u h = (bound_avoid bs under u h.0, plain_avoids p (below (names_bound bs) under) (below_under (names_bound bs) under (bound_names bs h.0) u) h.1)
    plain_avoids (choose x r p) under u h = (tt, plain_avoids r under u h.1, plain_avoids p (x ∷ under) (cons_under x under (bindable x h.0) u) h.2)
    plain_avoids (tuple ts) under u h = all_avoid ts under u h
    plain_avoids (set_of ts) under u h = all_avoid ts under u h
    plain_avoids (filter_of x r p) under u h = (tt, plain_avoids r under u h.1, plain_avoids p (x ∷ under) (cons_under x under (bindable x h.0) u) h.2)
    plain_avoids (image e x r) under u h = (tt, plain_avoids r under u h.1, plain_avoids e (x ∷ under) (cons_under x under (bindable x h.0) u) h.2)
    plain_avoids (fun_of bs e) under u h = (bound_avoid bs under u h.0, plain_avoids e (below (names_bound bs) under) (below_under (names_bound bs) under (bound_names bs h.0) u) h.1)
    plain_avoids (fun_set a b) under u h = (plain_avoids a under u h.0, plain_avoids b under u h.1)
    plain_avoids (record_of ds) under u h = fields_avoid ds under u h
    plain_avoids (record_set ds) under u h = fields_avoid ds under u h
    plain_avoids (except a us) under u h = (plain_avoids a under u h.0, paths_avoid us under u h.1)
    plain_avoids (index a ts) under u h = (plain_avoids a under u h.0, all_avoid ts under u h.1)
    plain_avoids (field a x) under u h = plain_avoids a under u h
    plain_avoids (call x ts) under u h = (called x h.0, all_avoid ts under u h.1)
    plain_avoids (unchanged xs) under u h = h

    all_avoid : (ts : Trees) (under : List Name) → Under under → PlainAll N C B ts → PlainAll (Good bad) (Good bad) Free (replaced_all put_for under ts)
    all_avoid no_trees under u h = tt
    all_avoid (more_trees t ts) under u h = (plain_avoids t under u h.0, all_avoid ts under u h.1)

    arms_avoid : (gs : TreePairs) (under : List Name) → Under under → PlainArms N C B gs → PlainArms (Good bad) (Good bad) Free (replaced_arms put_for under gs)
    arms_avoid no_arms under u h = tt
    arms_avoid (more_arms g' e gs) under u h = (plain_avoids g' under u h.0, plain_avoids e under u h.1, arms_avoid gs under u h.2)

    fields_avoid : (ds : NamedTrees) (under : List Name) → Under under → PlainFields N C B ds → PlainFields (Good bad) (Good bad) Free (replaced_fields put_for under ds)
    fields_avoid no_named under u h = tt
    fields_avoid (more_named x t ts) under u h = (plain_avoids t under u h.0, fields_avoid ts under u h.1)

    let_avoid : (ds : NamedTrees) (under : List Name) → Under under → PlainLet N C B ds → PlainLet (Good bad) (Good bad) Free (replaced_let put_for under ds)
    let_avoid no_named under u h = tt
    let_avoid (more_named x t ts) under u h = (tt, plain_avoids t under u h.1, let_avoid ts (x ∷ under) (cons_under x under (bindable x h.0) u) h.2)

    bound_avoid : (bs : BoundTrees) (under : List Name) → Under under → PlainBound N C B bs → PlainBound (Good bad) (Good bad) Free (replaced_bound put_for under bs)
    bound_avoid no_bound under u h = tt
    bound_avoid (more_bound xs r bs) under u h = (all_free xs, plain_avoids r under u h.1, bound_avoid bs under u h.2)

    paths_avoid : (us : PathTrees) (under : List Name) → Under under → PlainPaths N C B us → PlainPaths (Good bad) (Good bad) Free (replaced_paths put_for under us)
    paths_avoid no_paths under u h = tt
    paths_avoid (more_paths ps e us) under u h = (all_avoid ps under u h.0, plain_avoids e under u h.1, paths_avoid us under u h.2)
