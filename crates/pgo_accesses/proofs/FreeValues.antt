-- An expression's value hangs on the names that stand free in it alone.
use Rattle.std.proofs.Common.{◌≡◌, Bool, true, false, ◌||◌, if◌then◌else◌, List, [], ◌∷◌, ◌++◌, length, Option, Some, None, refl, sym, ap, ◌∙◌, subst, arith, option_and_then}
use Rattle.pgo_base.specs.declared.expr.Quantifier.{Quantifier}
use Rattle.pgo_base.specs.declared.expr.Quantifier.TheVariants as quantifiers
use Rattle.pgo_base.specs.Data.{Data, string}
use Rattle.pgo_base.specs.Lookup.{Name, Names, Vars, same_name, find}
use Rattle.pgo_base.specs.Tree.{Tree, name, primed, number, text, truth, at, word, unary, binary, product, cond_of, case_of, case_other, let_in, quantified, choose, tuple, set_of, filter_of, image, fun_of, fun_set, record_of, record_set, except, index, field, call, unchanged, Trees, no_trees, more_trees, NamedTrees, no_named, more_named, TreePairs, no_arms, more_arms, BoundTrees, no_bound, more_bound, PathTrees, no_paths, more_paths}
use Rattle.pgo_model.specs.FunctionSets.{choice_count, product_choices, function_choices, record_choices}
use Rattle.pgo_model.specs.Operators.{truth_of, from_truth, any3, all3, first3, filter3, both, each, where_few, set_from, function_from, members_of, apply, sequence, choices, put_at}
use Rattle.pgo_model.specs.Sequences.{assert_name, assert, operators}
use Rattle.pgo_model.specs.Val.{or_else, Meaning, Scope, sem, val, plain, call_def, value_of_call, with_name, with_names, with_part, unary_sem, binary_sem, functions_sem, decide, over_each, some_of, every_of, quantify, name_values, names_over, sets_over, index_of, function_over, values_of, asserted, let_scope, case_value, ranges, fields, updated}
use Rattle.pgo_model.specs.Names.{is_among}
use Rattle.pgo_sections.specs.Bound.{names_of, names_bound, below}
use Rattle.pgo_sections.specs.FreeNames.{free_names, free_names_all, free_names_fields, free_names_let, free_names_arms, free_names_bound, free_names_paths}
use Rattle.pgo_sections.specs.Plain.{All}
use Rattle.pgo_sections.proofs.Under.{names, long_choices, each_long, sets_names, values_names, values_before, ranges_names}

pub all_first : (P : Name → Type 0) (xs ys : List Name) → All P (xs ++ ys) → All P xs
all_first P [] ys h = tt
all_first P (x ∷ xs) ys h = (h.0, all_first P xs ys h.1)

pub all_second : (P : Name → Type 0) (xs ys : List Name) → All P (xs ++ ys) → All P ys
all_second P [] ys h = h
all_second P (x ∷ xs) ys h = all_second P xs ys h.1

-- whether there is something
abbrev pub there : {A : Type 0} → Option A → Bool
there None = false
there (Some a) = true

-- two scopes beside each other, in which the same names are bound. They know the same names
module _ (env env' : Names) (now : Vars) (next : Option Vars) (defs : List Meaning) (known : (x : Name) → there (find x env) ≡ there (find x env')) where
  abbrev pub Left : Option Data → Names → Scope
  Left part Γ = record { names = Γ ++ env; part = part; now = now; next = next; defs = defs }

  abbrev pub Right : Option Data → Names → Scope
  Right part Γ = record { names = Γ ++ env'; part = part; now = now; next = next; defs = defs }

  -- the name stands for the same in both
  abbrev pub Same : Name → Type 0
  Same x = find x env ≡ find x env'

  found_more : (Γ : Names) (x : Name) → Same x → find x (Γ ++ env) ≡ find x (Γ ++ env')
  found_more [] x h = h
  found_more (p ∷ Γ) x h = ap (λ o. if same_name x p.0 then Some p.1 else o) (found_more Γ x h)

  found_within : (Γ : Names) (x : Name) → is_among x (names Γ) ≡ true → find x (Γ ++ env) ≡ find x (Γ ++ env')
  found_within [] x h = absurd (grind (arith, h))
  found_within (p ∷ Γ) x h = go (same_name x p.0) h (λ e. found_within Γ x e)
    where
      go : (b : Bool) → b || is_among x (names Γ) ≡ true → (is_among x (names Γ) ≡ true → find x (Γ ++ env) ≡ find x (Γ ++ env')) → (if b then Some p.1 else find x (Γ ++ env)) ≡ (if b then Some p.1 else find x (Γ ++ env'))
      go true h ih = refl
      go false h ih = ih h

  known_more : (Γ : Names) (x : Name) → there (find x (Γ ++ env)) ≡ there (find x (Γ ++ env'))
  known_more [] x = known x
  known_more (p ∷ Γ) x = go (same_name x p.0) (known_more Γ x)
    where
      go : (b : Bool) → there (find x (Γ ++ env)) ≡ there (find x (Γ ++ env')) → there (if b then Some p.1 else find x (Γ ++ env)) ≡ there (if b then Some p.1 else find x (Γ ++ env'))
      go true ih = refl
      go false ih = ih

  name_same : (Γ : Names) (x : Name) → (b : Bool) → is_among x (names Γ) ≡ b → All Same (if b then [] else x ∷ []) → find x (Γ ++ env) ≡ find x (Γ ++ env')
  name_same Γ x true e h = found_within Γ x e
  name_same Γ x false e h = found_more Γ x h.0

  called : (x : Name) (args : List Data) (part : Option Data) (o o' : Option (Option Data)) → there o ≡ there o' → or_else o (λ v. None) (or_else (find x now) (λ v. None) (call_def x args defs)) ≡ or_else o' (λ v. None) (or_else (find x now) (λ v. None) (call_def x args defs))
  called x args part None None h = refl
  called x args part None (Some w) h = absurd (grind (arith, h))
  called x args part (Some w) None h = absurd (grind (arith, h))
  called x args part (Some w) (Some u) h = refl

  call_same : (Γ : Names) (part : Option Data) (x : Name) (args : List Data) → value_of_call x args (Left part Γ) ≡ value_of_call x args (Right part Γ)
  call_same Γ part x args = ap (λ o. or_else (find x operators) (λ f. f args) o) (called x args part (find x (Γ ++ env)) (find x (Γ ++ env')) (known_more Γ x))

  some_agree : (over : List (Name × List Data)) (f f' : Names → Option Bool) (Γ : Names) → ((Δ : Names) → names Δ ≡ below (names_over over) (names Γ) → f (Δ ++ env) ≡ f' (Δ ++ env')) → some_of over f (Γ ++ env) ≡ some_of over f' (Γ ++ env')
  some_agree [] f f' Γ h = h Γ refl
  some_agree (b ∷ over) f f' Γ h =
      let p = λ (m : Data). some_agree over f f' ((b.0, Some m) ∷ Γ) h in
      λ i. any3 (λ m. p m i) b.1

  every_agree : (over : List (Name × List Data)) (f f' : Names → Option Bool) (Γ : Names) → ((Δ : Names) → names Δ ≡ below (names_over over) (names Γ) → f (Δ ++ env) ≡ f' (Δ ++ env')) → every_of over f (Γ ++ env) ≡ every_of over f' (Γ ++ env')
  every_agree [] f f' Γ h = h Γ refl
  every_agree (b ∷ over) f f' Γ h =
      let p = λ (m : Data). every_agree over f f' ((b.0, Some m) ∷ Γ) h in
      λ i. all3 (λ m. p m i) b.1

  quantify_agree : (q : Quantifier) (over : List (Name × List Data)) (f f' : Names → Option Bool) (Γ : Names) → ((Δ : Names) → names Δ ≡ below (names_over over) (names Γ) → f (Δ ++ env) ≡ f' (Δ ++ env')) → quantify q over f (Γ ++ env) ≡ quantify q over f' (Γ ++ env')
  quantify_agree quantifiers.Exists over f f' Γ h = some_agree over f f' Γ h
  quantify_agree quantifiers.Forall over f f' Γ h = every_agree over f f' Γ h

  function_agree : (over : List (Name × List Data)) (f f' : Names → Option Data) (Γ : Names) → ((Δ : Names) → names Δ ≡ below (names_over over) (names Γ) → f (Δ ++ env) ≡ f' (Δ ++ env')) → function_over over f (Γ ++ env) ≡ function_over over f' (Γ ++ env')
  function_agree over f f' Γ h =
      let xs = names_over over in
      let at_values : (vs : List Data) → length vs ≡ length (sets_over over) → f (name_values xs vs (Γ ++ env)) ≡ f' (name_values xs vs (Γ ++ env')) = λ vs e.
      (let l = e ∙ sets_names over in
      ap f (values_before xs vs Γ env)
      ∙ h (name_values xs vs Γ) (values_names xs vs Γ l)
      ∙ sym (ap f' (values_before xs vs Γ env'))) in
      let all = each_long (length (sets_over over)) (λ vs. both (λ k v. Some (k, v)) (index_of vs) (f (name_values xs vs (Γ ++ env)))) (λ vs. both (λ k v. Some (k, v)) (index_of vs) (f' (name_values xs vs (Γ ++ env')))) (choices (sets_over over)) (long_choices (sets_over over)) (λ vs e. ap (λ o. both (λ k v. Some (k, v)) (index_of vs) o) (at_values vs e)) in
      λ i. where_few (choice_count (sets_over over)) (λ _. option_and_then function_from (all i))

  -- what is asked of an expression below some names
  abbrev Under : Tree → Type 0
  Under e = (part : Option Data) (Γ : Names) → All Same (free_names (names Γ) e) → sem e (Left part Γ) ≡ sem e (Right part Γ)

  body_under : (bs : BoundTrees) (e : Tree) → Under e → (part : Option Data) (Γ : Names) (over : List (Name × List Data)) → ranges bs (Right part Γ) ≡ Some over → All Same (free_names (below (names_bound bs) (names Γ)) e) → (Δ : Names) → names Δ ≡ below (names_over over) (names Γ) → sem e (Left part Δ) ≡ sem e (Right part Δ)
  body_under bs e u part Γ over r h Δ d =
      let P : List Name → Type 0 = λ xs. All Same (free_names xs e) in
      let Q : List Name → Type 0 = λ xs. All Same (free_names (below xs (names Γ)) e) in
      u part Δ (subst P (sym d) (subst Q (sym (ranges_names bs (Right part Γ) over r)) h))

  quantified_case : (q : Quantifier) (bs : BoundTrees) (p : Tree) → Under p → (part : Option Data) (Γ : Names) → All Same (free_names (below (names_bound bs) (names Γ)) p) → (o : Option (List (Name × List Data))) → ranges bs (Right part Γ) ≡ o → option_and_then (λ over. from_truth (quantify q over (λ ns. truth_of (sem p (with_names ns (Left part Γ))).value) (Γ ++ env))) o ≡ option_and_then (λ over. from_truth (quantify q over (λ ns. truth_of (sem p (with_names ns (Right part Γ))).value) (Γ ++ env'))) o
  quantified_case q bs p u part Γ h None r = refl
  quantified_case q bs p u part Γ h (Some over) r =
      ap from_truth (quantify_agree q over (λ ns. truth_of (sem p (with_names ns (Left part Γ))).value) (λ ns. truth_of (sem p (with_names ns (Right part Γ))).value) Γ (λ Δ d. ap (λ o. truth_of o.value) (body_under bs p u part Γ over r h Δ d)))

  function_case : (bs : BoundTrees) (e : Tree) → Under e → (part : Option Data) (Γ : Names) → All Same (free_names (below (names_bound bs) (names Γ)) e) → (o : Option (List (Name × List Data))) → ranges bs (Right part Γ) ≡ o → option_and_then (λ over. function_over over (λ ns. (sem e (with_names ns (Left part Γ))).value) (Γ ++ env)) o ≡ option_and_then (λ over. function_over over (λ ns. (sem e (with_names ns (Right part Γ))).value) (Γ ++ env')) o
  function_case bs e u part Γ h None r = refl
  function_case bs e u part Γ h (Some over) r =
      function_agree over (λ ns. (sem e (with_names ns (Left part Γ))).value) (λ ns. (sem e (with_names ns (Right part Γ))).value) Γ (λ Δ d. ap (λ o. o.value) (body_under bs e u part Γ over r h Δ d))

  -- the names of a LET with their values
  abbrev letted : NamedTrees → Option Data → Names → Names
  letted no_named part Γ = Γ
  letted (more_named x t ts) part Γ = letted ts part ((x, (sem t (Right part Γ)).value) ∷ Γ)

  letted_names : (ds : NamedTrees) (part : Option Data) (Γ : Names) → names (letted ds part Γ) ≡ below (names_of ds) (names Γ)
  letted_names no_named part Γ = refl
  letted_names (more_named x t ts) part Γ = letted_names ts part ((x, (sem t (Right part Γ)).value) ∷ Γ)

  letted_right : (ds : NamedTrees) (part : Option Data) (Γ : Names) → let_scope ds (Right part Γ) ≡ Right part (letted ds part Γ)
  letted_right no_named part Γ = refl
  letted_right (more_named x t ts) part Γ = letted_right ts part ((x, (sem t (Right part Γ)).value) ∷ Γ)

  let_under : (ds : NamedTrees) (e : Tree) → Under e → (part : Option Data) (Γ : Names) → All Same (free_names (below (names_of ds) (names Γ)) e) → let_scope ds (Left part Γ) ≡ Left part (letted ds part Γ) → sem e (let_scope ds (Left part Γ)) ≡ sem e (let_scope ds (Right part Γ))
  let_under ds e u part Γ h left =
      let P : List Name → Type 0 = λ xs. All Same (free_names xs e) in
      ap (λ s. sem e s) left
      ∙ u part (letted ds part Γ) (subst P (sym (letted_names ds part Γ)) h)
      ∙ ap (λ s. sem e s) (sym (letted_right ds part Γ))

  mutual
    under : (e : Tree) → (part : Option Data) (Γ : Names) → All Same (free_names (names Γ) e) → sem e (Left part Γ) ≡ sem e (Right part Γ)
    under (name x) part Γ h = ap (λ o. plain (or_else o (λ v. v) (or_else (find x now) (λ v. Some v) (call_def x [] defs)))) (name_same Γ x (is_among x (names Γ)) refl h)
    under (primed x) part Γ h = refl
    under (number z) part Γ h = refl
    under (text s) part Γ h = refl
    under (truth b) part Γ h = refl
    under at part Γ h = refl
    under (word w) part Γ h = refl
    under (unary o a) part Γ h = ap (unary_sem o) (under a part Γ h)
    under (binary o a b) part Γ h =
        let p = under a part Γ (all_first Same (free_names (names Γ) a) _ h) in let q = under b part Γ (all_second Same (free_names (names Γ) a) _ h) in λ i. binary_sem o (p i) (q i)
    under (product ts) part Γ h = ap (λ o. functions_sem (option_and_then product_choices o)) (under_all ts part Γ h)
    under (cond_of p a b) part Γ h =
        let h1 = all_first Same (free_names (names Γ) p ++ free_names (names Γ) a) (free_names (names Γ) b) h in
        let x = under p part Γ (all_first Same (free_names (names Γ) p) _ h1) in let y = under a part Γ (all_second Same (free_names (names Γ) p) _ h1) in
        let z = under b part Γ (all_second Same (free_names (names Γ) p ++ free_names (names Γ) a) (free_names (names Γ) b) h) in
        λ i. plain (decide (truth_of (x i).value) (y i).value (z i).value)
    under (case_of gs) part Γ h = ap plain (under_arms gs part Γ None h)
    under (case_other gs e) part Γ h =
        let x = under e part Γ (all_second Same (free_names_arms (names Γ) gs) _ h) in
        ap (λ o. plain (case_value gs (Left part Γ) o.value)) x ∙ ap plain (under_arms gs part Γ (sem e (Right part Γ)).value (all_first Same (free_names_arms (names Γ) gs) _ h))
    under (let_in ds e) part Γ h =
        ap (λ o. plain o.value) (let_under ds e (λ o Δ k. under e o Δ k) part Γ (all_second Same (free_names_let (names Γ) ds) _ h) (left_let ds part Γ (all_first Same (free_names_let (names Γ) ds) _ h)))
    under (quantified q bs p) part Γ h =
        ap (λ over. plain (option_and_then (λ over. from_truth (quantify q over (λ ns. truth_of (sem p (with_names ns (Left part Γ))).value) (Γ ++ env))) over)) (under_bound bs part Γ (all_first Same (free_names_bound (names Γ) bs) _ h))
        ∙ ap plain (quantified_case q bs p (λ o Δ k. under p o Δ k) part Γ (all_second Same (free_names_bound (names Γ) bs) _ h) (ranges bs (Right part Γ)) refl)
    under (choose x r p) part Γ h =
        let a = under r part Γ (all_first Same (free_names (names Γ) r) _ h) in let b = λ (m : Data). under p part ((x, Some m) ∷ Γ) (all_second Same (free_names (names Γ) r) _ h) in
        λ i. plain (option_and_then (first3 (λ m. truth_of (b m i).value)) (option_and_then members_of (a i).value))
    under (tuple ts) part Γ h = ap (λ o. plain (option_and_then sequence o)) (under_all ts part Γ h)
    under (set_of ts) part Γ h = ap (λ o. plain (option_and_then set_from o)) (under_all ts part Γ h)
    under (filter_of x r p) part Γ h =
        let a = under r part Γ (all_first Same (free_names (names Γ) r) _ h) in let b = λ (m : Data). under p part ((x, Some m) ∷ Γ) (all_second Same (free_names (names Γ) r) _ h) in
        λ i. plain (option_and_then (λ ms. option_and_then set_from (filter3 (λ m. truth_of (b m i).value) ms)) (option_and_then members_of (a i).value))
    under (image e x r) part Γ h =
        let a = under r part Γ (all_second Same (free_names (x ∷ names Γ) e) _ h) in let b = λ (m : Data). under e part ((x, Some m) ∷ Γ) (all_first Same (free_names (x ∷ names Γ) e) _ h) in
        λ i. plain (option_and_then (λ ms. option_and_then set_from (each (λ m. (b m i).value) ms)) (option_and_then members_of (a i).value))
    under (fun_of bs e) part Γ h =
        ap (λ over. plain (option_and_then (λ over. function_over over (λ ns. (sem e (with_names ns (Left part Γ))).value) (Γ ++ env)) over)) (under_bound bs part Γ (all_first Same (free_names_bound (names Γ) bs) _ h))
        ∙ ap plain (function_case bs e (λ o Δ k. under e o Δ k) part Γ (all_second Same (free_names_bound (names Γ) bs) _ h) (ranges bs (Right part Γ)) refl)
    under (fun_set a b) part Γ h =
        let p = under a part Γ (all_first Same (free_names (names Γ) a) _ h) in let q = under b part Γ (all_second Same (free_names (names Γ) a) _ h) in λ i. functions_sem (both function_choices (p i).value (q i).value)
    under (record_of ds) part Γ h = ap (λ o. plain (option_and_then function_from o)) (under_fields ds part Γ h)
    under (record_set ds) part Γ h = ap (λ o. functions_sem (option_and_then record_choices o)) (under_fields ds part Γ h)
    under (except f us) part Γ h =
        let p = under f part Γ (all_first Same (free_names (names Γ) f) _ h) in
        ap (λ o. plain (updated us (Left part Γ) o.value)) p ∙ ap plain (under_paths us part Γ (sem f (Right part Γ)).value (all_second Same (free_names (names Γ) f) _ h))
    under (index f ts) part Γ h =
        let p = under f part Γ (all_first Same (free_names (names Γ) f) _ h) in let q = under_all ts part Γ (all_second Same (free_names (names Γ) f) _ h) in
        λ i. plain (both apply (p i).value (option_and_then index_of (q i)))
    under (field r x) part Γ h = ap (λ o. plain (option_and_then (λ v. apply v (string x)) o.value)) (under r part Γ h)
    under (call x ts) part Γ h =
        let p = under_all ts part Γ h in let q = under_asserted ts part Γ h in
        let r = λ (args : List Data). call_same Γ part x args in
        λ i. plain (if same_name x assert_name then q i else option_and_then (λ args. r args i) (p i))
    under (unchanged xs) part Γ h = refl

    under_all : (ts : Trees) → (part : Option Data) (Γ : Names) → All Same (free_names_all (names Γ) ts) → values_of ts (Left part Γ) ≡ values_of ts (Right part Γ)
    under_all no_trees part Γ h = refl
    under_all (more_trees t ts) part Γ h =
        let p = under t part Γ (all_first Same (free_names (names Γ) t) _ h) in let q = under_all ts part Γ (all_second Same (free_names (names Γ) t) _ h) in λ i. both (λ v vs. Some (v ∷ vs)) (p i).value (q i)

    under_asserted : (ts : Trees) → (part : Option Data) (Γ : Names) → All Same (free_names_all (names Γ) ts) → asserted ts (Left part Γ) ≡ asserted ts (Right part Γ)
    under_asserted no_trees part Γ h = refl
    under_asserted (more_trees e no_trees) part Γ h = refl
    under_asserted (more_trees e (more_trees m no_trees)) part Γ h = ap (λ o. assert o.value) (under e part Γ (all_first Same (free_names (names Γ) e) _ h))
    under_asserted (more_trees e (more_trees m (more_trees t ts))) part Γ h = refl

    under_arms : (gs : TreePairs) → (part : Option Data) (Γ : Names) → (o : Option Data) → All Same (free_names_arms (names Γ) gs) → case_value gs (Left part Γ) o ≡ case_value gs (Right part Γ) o
    under_arms no_arms part Γ o h = refl
    under_arms (more_arms g e gs) part Γ o h =
        let h1 = all_first Same (free_names (names Γ) g ++ free_names (names Γ) e) (free_names_arms (names Γ) gs) h in
        let p = under g part Γ (all_first Same (free_names (names Γ) g) _ h1) in let q = under e part Γ (all_second Same (free_names (names Γ) g) _ h1) in
        let r = under_arms gs part Γ o (all_second Same (free_names (names Γ) g ++ free_names (names Γ) e) (free_names_arms (names Γ) gs) h) in
        λ i. decide (truth_of (p i).value) (q i).value (r i)

    under_fields : (ds : NamedTrees) → (part : Option Data) (Γ : Names) → All Same (free_names_fields (names Γ) ds) → fields ds (Left part Γ) ≡ fields ds (Right part Γ)
    under_fields no_named part Γ h = refl
    under_fields (more_named x t ts) part Γ h =
        let p = under t part Γ (all_first Same (free_names (names Γ) t) _ h) in let q = under_fields ts part Γ (all_second Same (free_names (names Γ) t) _ h) in λ i. both (λ v rest. Some ((string x, v) ∷ rest)) (p i).value (q i)

    left_let : (ds : NamedTrees) → (part : Option Data) (Γ : Names) → All Same (free_names_let (names Γ) ds) → let_scope ds (Left part Γ) ≡ Left part (letted ds part Γ)
    left_let no_named part Γ h = refl
    left_let (more_named x t ts) part Γ h =
        ap (λ o. let_scope ts (with_name x o.value (Left part Γ))) (under t part Γ (all_first Same (free_names (names Γ) t) _ h))
        ∙ left_let ts part ((x, (sem t (Right part Γ)).value) ∷ Γ) (all_second Same (free_names (names Γ) t) _ h)

    under_bound : (bs : BoundTrees) → (part : Option Data) (Γ : Names) → All Same (free_names_bound (names Γ) bs) → ranges bs (Left part Γ) ≡ ranges bs (Right part Γ)
    under_bound no_bound part Γ h = refl
    under_bound (more_bound xs r bs) part Γ h =
        let p = under r part Γ (all_first Same (free_names (names Γ) r) _ h) in let q = under_bound bs part Γ (all_second Same (free_names (names Γ) r) _ h) in
        λ i. both (λ ms rest. Some (over_each xs ms rest)) (option_and_then members_of (p i).value) (q i)

    under_paths : (us : PathTrees) → (part : Option Data) (Γ : Names) → (f : Option Data) → All Same (free_names_paths (names Γ) us) → updated us (Left part Γ) f ≡ updated us (Right part Γ) f
    under_paths no_paths part Γ f h = refl
    under_paths (more_paths ps e us) part Γ f h =
        let h1 = all_first Same (free_names_all (names Γ) ps ++ free_names (names Γ) e) (free_names_paths (names Γ) us) h in
        let p = under_all ps part Γ (all_first Same (free_names_all (names Γ) ps) _ h1) in
        let q = λ (o : Option Data). under e o Γ (all_second Same (free_names_all (names Γ) ps) _ h1) in
        let here = λ (path : Option (List Data)) (new : Option Data → Option Data). option_and_then (λ path. option_and_then (λ v. put_at path new (Some v)) f) path in
        (λ i. updated us (Left part Γ) (here (p i) (λ o. (q o i).value)))
        ∙ under_paths us part Γ (here (values_of ps (Right part Γ)) (λ o. (sem e (with_part o (Right part Γ))).value)) (all_second Same (free_names_all (names Γ) ps ++ free_names (names Γ) e) (free_names_paths (names Γ) us) h)

  pub same_value : (e : Tree) → All Same (free_names [] e) → val e (record { names = env; part = None; now = now; next = next; defs = defs }) ≡ val e (record { names = env'; part = None; now = now; next = next; defs = defs })
  same_value e h = ap (λ o. o.value) (under e None [] h)
