-- A definition that names no variable means the same over any state.
use Rattle.std.proofs.Common.{◌≡◌, Bool, true, false, if◌then◌else◌, List, [], ◌∷◌, ◌++◌, length, fold, ◌==◌, Option, Some, None, refl, sym, ap, ◌∙◌}
use Rattle.pgo_base.specs.Data.{Data}
use Rattle.pgo_base.specs.Lookup.{Name, Names, Vars, same_name, find}
use Rattle.pgo_base.specs.Tree.{Tree, name, primed, number, text, truth, at, word, unary, binary, product, cond_of, case_of, case_other, let_in, quantified, choose, tuple, set_of, filter_of, image, fun_of, fun_set, record_of, record_set, except, index, field, call, unchanged, Trees, no_trees, more_trees, NamedTrees, no_named, more_named, TreePairs, no_arms, more_arms, BoundTrees, no_bound, more_bound, PathTrees, no_paths, more_paths}
use Rattle.pgo_model.specs.Sequences.{operators}
use Rattle.pgo_model.specs.Val.{or_else, Meaning, val, plain, call_def, name_values, Defined, Given, Means, meanings, meaning_of, default_meaning}
use Rattle.pgo_sections.specs.Closed.{Apart, IsClosed, AreClosed}
use Rattle.pgo_model.specs.Names.{is_among}
use Rattle.pgo_sections.specs.Plain.{Plain}
use Rattle.pgo_sections.specs.Bound.{names_of, names_bound, below}
use Rattle.pgo_sections.specs.Replaced.{replaced, replaced_all, replaced_arms, replaced_fields, replaced_let, replaced_bound, replaced_paths}
use Rattle.pgo_sections.proofs.Under.{under, NamesAgree, CallsAgree}

-- names in the place of themselves
module _ (f : List Name → Name → Tree) (same : (u : List Name) (x : Name) → f u x ≡ name x) where
  mutual
    replaced_same : (u : List Name) (e : Tree) → replaced f u e ≡ e
    replaced_same u (name x) = same u x
    replaced_same u (primed x) = refl
    replaced_same u (number z) = refl
    replaced_same u (text s) = refl
    replaced_same u (truth b) = refl
    replaced_same u at = refl
    replaced_same u (word w) = refl
    replaced_same u (unary o a) = ap (unary o) (replaced_same u a)
    replaced_same u (binary o a b) = let p = replaced_same u a in let q = replaced_same u b in λ i. binary o (p i) (q i)
    replaced_same u (product ts) = ap product (all_same u ts)
    replaced_same u (cond_of c a b) =
        let p = replaced_same u c in let q = replaced_same u a in let r = replaced_same u b in λ i. cond_of (p i) (q i) (r i)
    replaced_same u (case_of gs) = ap case_of (arms_same u gs)
    replaced_same u (case_other gs e) = let p = arms_same u gs in let q = replaced_same u e in λ i. case_other (p i) (q i)
    replaced_same u (let_in ds e) = let p = let_same u ds in let q = replaced_same (below (names_of ds) u) e in λ i. let_in (p i) (q i)
    replaced_same u (quantified q bs e) =
        let p = bound_same u bs in let r = replaced_same (below (names_bound bs) u) e in λ i. quantified q (p i) (r i)
    replaced_same u (choose x r e) = let p = replaced_same u r in let q = replaced_same (x ∷ u) e in λ i. choose x (p i) (q i)
    replaced_same u (tuple ts) = ap tuple (all_same u ts)
    replaced_same u (set_of ts) = ap set_of (all_same u ts)
    replaced_same u (filter_of x r e) = let p = replaced_same u r in let q = replaced_same (x ∷ u) e in λ i. filter_of x (p i) (q i)
    replaced_same u (image e x r) = let p = replaced_same u r in let q = replaced_same (x ∷ u) e in λ i. image (q i) x (p i)
    replaced_same u (fun_of bs e) =
        let p = bound_same u bs in let r = replaced_same (below (names_bound bs) u) e in λ i. fun_of (p i) (r i)
    replaced_same u (fun_set a b) = let p = replaced_same u a in let q = replaced_same u b in λ i. fun_set (p i) (q i)
    replaced_same u (record_of ds) = ap record_of (fields_same u ds)
    replaced_same u (record_set ds) = ap record_set (fields_same u ds)
    replaced_same u (except a us) = let p = replaced_same u a in let q = paths_same u us in λ i. except (p i) (q i)
    replaced_same u (index a ts) = let p = replaced_same u a in let q = all_same u ts in λ i. index (p i) (q i)
    replaced_same u (field a x) = ap (λ b. field b x) (replaced_same u a)
    replaced_same u (call x ts) = ap (call x) (all_same u ts)
    replaced_same u (unchanged xs) = refl

    all_same : (u : List Name) (ts : Trees) → replaced_all f u ts ≡ ts
    all_same u no_trees = refl
    all_same u (more_trees t ts) = let p = replaced_same u t in let q = all_same u ts in λ i. more_trees (p i) (q i)

    arms_same : (u : List Name) (gs : TreePairs) → replaced_arms f u gs ≡ gs
    arms_same u no_arms = refl
    arms_same u (more_arms g e gs) =
        let p = replaced_same u g in let q = replaced_same u e in let r = arms_same u gs in λ i. more_arms (p i) (q i) (r i)

    fields_same : (u : List Name) (ds : NamedTrees) → replaced_fields f u ds ≡ ds
    fields_same u no_named = refl
    fields_same u (more_named x t ts) = let p = replaced_same u t in let q = fields_same u ts in λ i. more_named x (p i) (q i)

    let_same : (u : List Name) (ds : NamedTrees) → replaced_let f u ds ≡ ds
    let_same u no_named = refl
    let_same u (more_named x t ts) = let p = replaced_same u t in let q = let_same (x ∷ u) ts in λ i. more_named x (p i) (q i)

    bound_same : (u : List Name) (bs : BoundTrees) → replaced_bound f u bs ≡ bs
    bound_same u no_bound = refl
    bound_same u (more_bound xs r bs) = let p = replaced_same u r in let q = bound_same u bs in λ i. more_bound xs (p i) (q i)

    paths_same : (u : List Name) (us : PathTrees) → replaced_paths f u us ≡ us
    paths_same u no_paths = refl
    paths_same u (more_paths ps e us) =
        let p = all_same u ps in let q = replaced_same u e in let r = paths_same u us in λ i. more_paths (p i) (q i) (r i)

module _ (vs : List Name) (s : Vars) (t : Option Vars) (not_there : (x : Name) → is_among x vs ≡ false → find x s ≡ None) where
  named_here : (o : Option (Option Data)) (a b : Option Data) → a ≡ b → or_else o (λ z. z) a ≡ or_else o (λ z. z) b
  named_here None a b e = e
  named_here (Some v) a b e = refl

  called_here : (o : Option (Option Data)) (a b : Option Data) → a ≡ b → or_else o (λ z. None) a ≡ or_else o (λ z. None) b
  called_here None a b e = e
  called_here (Some v) a b e = refl

  applied_here : (o : Option (List Data → Option Data)) (args : List Data) (a b : Option Data) → a ≡ b → or_else o (λ g. g args) a ≡ or_else o (λ g. g args) b
  applied_here None args a b e = e
  applied_here (Some g) args a b e = refl

  module _ (ms ms' : List Meaning) (agree : (x : Name) (args : List Data) → call_def x args ms ≡ call_def x args ms') where
    names_agree : (env : Names) → NamesAgree (Apart vs) (Apart vs) (λ y. Unit {0}) (λ x. name x) env env s [] t None ms ms'
    names_agree env Γ part x ok n out =
        ap plain (named_here (find x (Γ ++ env)) _ _ (ap (λ o. or_else o (λ z. Some z) (call_def x [] ms)) (not_there x n) ∙ agree x []))

    calls_agree : (env : Names) → CallsAgree (Apart vs) (Apart vs) (λ y. Unit {0}) (λ x. name x) env env s [] t None ms ms'
    calls_agree env Γ part x args ok c =
        applied_here (find x operators) args _ _ (called_here (find x (Γ ++ env)) _ _ (ap (λ o. or_else o (λ z. None) (call_def x args ms)) (not_there x c) ∙ agree x args))

    name_same : (u : List Name) (x : Name) (b : Bool) → (if b then name x else name x) ≡ name x
    name_same u x true = refl
    name_same u x false = refl

    -- a closed expression has the same value over any state
    body_same : (e : Tree) → Plain (Apart vs) (Apart vs) (λ y. Unit {0}) e → (env : Names) → val e (record { names = env; part = None; now = s; next = t; defs = ms }) ≡ val e (record { names = env; part = None; now = []; next = None; defs = ms' })
    body_same e h env =
        ap (λ x. val x (record { names = env; part = None; now = s; next = t; defs = ms })) (sym (replaced_same (λ u x. if is_among x u then name x else name x) (λ u x. name_same u x (is_among x u)) [] e))
        ∙ ap (λ o. o.value) (under (Apart vs) (Apart vs) (λ y. Unit {0}) (λ x. name x) env env s [] t None ms ms' (names_agree env) (calls_agree env) e h None [] tt)

    step_same : (d : Defined) → IsClosed vs d → (x : Name) (args : List Data) → call_def x args (meaning_of s t ms d) ≡ call_def x args (meaning_of [] None ms' d)
    step_same (Given y v) h x args = ap (λ o. if same_name x y then (if length args == 0 then Some v else None) else o) (agree x args)
    step_same (Means y ps e) h x args =
        let p = body_same e h (name_values ps args []) in let q = agree x args in
        λ i. if same_name x y then (if length args == length ps then p i else None) else q i

  all_same_from : (ds : List Defined) → AreClosed vs ds → (ms ms' : List Meaning) → ((x : Name) (args : List Data) → call_def x args ms ≡ call_def x args ms') → (x : Name) (args : List Data) → call_def x args (fold (meaning_of s t) ms ds) ≡ call_def x args (fold (meaning_of [] None) ms' ds)
  all_same_from [] h ms ms' agree x args = agree x args
  all_same_from (d ∷ ds) h ms ms' agree x args =
      all_same_from ds h.1 (meaning_of s t ms d) (meaning_of [] None ms' d) (step_same ms ms' agree d h.0) x args

  pub defs_same : (ds : List Defined) → AreClosed vs ds → (x : Name) (args : List Data) → call_def x args (meanings ds s t) ≡ call_def x args (meanings ds [] None)
  defs_same ds h x args = all_same_from ds h (default_meaning ∷ []) (default_meaning ∷ []) (λ x args. refl) x args
