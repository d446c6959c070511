-- An expression with other expressions in the place of its names has the value that the expression has, where what stands
-- for a name has the name's value.
use Rattle.std.proofs.Common.{◌≡◌, ℕ, suc, Bool, true, false, ◌||◌, if◌then◌else◌, List, [], ◌∷◌, ◌++◌, length, Option, Some, None, refl, sym, ap, ◌∙◌, subst, arith, option_and_then}
use Rattle.std.proofs.lemmas.Option.{same_Some}
use Rattle.pgo_base.specs.declared.expr.Quantifier.{Quantifier}
use Rattle.pgo_base.specs.declared.expr.Quantifier.TheVariants as quantifiers
use Rattle.pgo_base.specs.Data.{Data, string}
use Rattle.pgo_base.specs.Lookup.{Name, Names, Vars, same_name, find}
use Rattle.pgo_base.specs.Tree.{Tree, name, primed, number, text, truth, at, word, unary, binary, product, cond_of, case_of, case_other, let_in, quantified, choose, tuple, set_of, filter_of, image, fun_of, fun_set, record_of, record_set, except, index, field, call, unchanged, Trees, no_trees, more_trees, NamedTrees, no_named, more_named, TreePairs, no_arms, more_arms, BoundTrees, no_bound, more_bound, PathTrees, no_paths, more_paths}
use Rattle.pgo_model.specs.FunctionSets.{choice_count, product_choices, function_choices, record_choices}
use Rattle.pgo_model.specs.Operators.{truth_of, from_truth, any3, all3, first3, filter3, both, each, where_few, set_from, function_from, members_of, apply, sequence, choices, put, spread, put_at}
use Rattle.pgo_model.specs.Sequences.{assert_name, assert}
use Rattle.pgo_model.specs.Val.{or_else, Meaning, Scope, sem, plain, value_of_name, value_of_call, with_name, with_names, with_part, unary_sem, binary_sem, functions_sem, decide, over_each, some_of, every_of, quantify, name_values, names_over, sets_over, index_of, function_over, values_of, asserted, let_scope, case_value, ranges, fields, updated}
use Rattle.pgo_model.specs.Names.{is_among}
use Rattle.pgo_sections.specs.Plain.{All, Plain, PlainAll, PlainArms, PlainFields, PlainLet, PlainBound, PlainPaths}
use Rattle.pgo_sections.specs.Bound.{names_of, names_bound, below}
use Rattle.pgo_sections.specs.Replaced.{replaced, replaced_all, replaced_arms, replaced_fields, replaced_let, replaced_bound, replaced_paths}

abbrev pub names : Names → List Name
names [] = []
names (p ∷ Δ) = p.0 ∷ names Δ

abbrev pub Long : ℕ → List (List Data) → Type 0
Long n [] = Unit {0}
Long n (c ∷ cs) = (length c ≡ n) × Long n cs

long_put : (n : ℕ) (m : Data) (cs : List (List Data)) → Long n cs → Long (suc n) (put m cs)
long_put n m [] h = tt
long_put n m (c ∷ cs) h = (ap suc h.0, long_put n m cs h.1)

long_append : (n : ℕ) (as' bs : List (List Data)) → Long n as' → Long n bs → Long n (as' ++ bs)
long_append n [] bs h g = g
long_append n (a ∷ as') bs h g = (h.0, long_append n as' bs h.1 g)

long_spread : (n : ℕ) (ms : List Data) (cs : List (List Data)) → Long n cs → Long (suc n) (spread ms cs)
long_spread n [] cs h = tt
long_spread n (m ∷ ms) cs h = long_append (suc n) (put m cs) (spread ms cs) (long_put n m cs h) (long_spread n ms cs h)

pub long_choices : (mss : List (List Data)) → Long (length mss) (choices mss)
long_choices [] = (refl, tt)
long_choices (ms ∷ rest) = long_spread (length rest) ms (choices rest) (long_choices rest)

pub each_long : {B : Type 0} → (n : ℕ) (f g : List Data → Option B) (cs : List (List Data)) → Long n cs → ((c : List Data) → length c ≡ n → f c ≡ g c) → each f cs ≡ each g cs
each_long n f g [] h e = refl
each_long n f g (c ∷ cs) h e =
    let p = e c h.0 in let q = each_long n f g cs h.1 e in λ i. both (λ b bs. Some (b ∷ bs)) (p i) (q i)

pub sets_names : (bs : List (Name × List Data)) → length (sets_over bs) ≡ length (names_over bs)
sets_names [] = refl
sets_names (b ∷ bs) = ap suc (sets_names bs)

pub values_names : (xs : List Name) (vs : List Data) (Γ : Names) → length vs ≡ length xs → names (name_values xs vs Γ) ≡ below xs (names Γ)
values_names [] vs Γ h = refl
values_names (x ∷ xs) [] Γ h = absurd (omega (arith, h))
values_names (x ∷ xs) (v ∷ vs) Γ h = values_names xs vs ((x, Some v) ∷ Γ) (omega (arith, h))

pub values_before : (xs : List Name) (vs : List Data) (Γ env : Names) → name_values xs vs (Γ ++ env) ≡ name_values xs vs Γ ++ env
values_before [] vs Γ env = refl
values_before (x ∷ xs) [] Γ env = refl
values_before (x ∷ xs) (v ∷ vs) Γ env = values_before xs vs ((x, Some v) ∷ Γ) env

each_names : (xs : List Name) (ms : List Data) (rest : List (Name × List Data)) → names_over (over_each xs ms rest) ≡ xs ++ names_over rest
each_names [] ms rest = refl
each_names (x ∷ xs) ms rest = ap (λ l. x ∷ l) (each_names xs ms rest)

abbrev got : {A : Type 0} → A → Option A → A
got d None = d
got d (Some a) = a

some_both : {A B C : Type 0} → (f : A → B → Option C) (p : Option A) (q : Option B) (c : C) → both f p q ≡ Some c → (a : A) × (b : B) × (p ≡ Some a) × (q ≡ Some b) × (f a b ≡ Some c)
some_both f None q c e = absurd (grind (arith, e))
some_both f (Some a) None c e = absurd (grind (arith, e))
some_both f (Some a) (Some b) c e = (a, b, refl, refl, e)

pub ranges_names : (bs : BoundTrees) (s : Scope) (over : List (Name × List Data)) → ranges bs s ≡ Some over → names_over over ≡ names_bound bs
ranges_names no_bound s over e = ap names_over (sym (same_Some _ _ e))
ranges_names (more_bound xs r bs) s over e =
    let b = some_both (λ ms rest. Some (over_each xs ms rest)) (option_and_then members_of (sem r s).value) (ranges bs s) over e in
    ap names_over (sym (same_Some _ _ b.4)) ∙ each_names xs b.0 b.1 ∙ ap (λ l. xs ++ l) (ranges_names bs s b.1 b.3)

all_below : (B : Name → Type 0) (xs : List Name) (Γ : Names) (vs : List Data) → All B xs → All B (names Γ) → All B (names (name_values xs vs Γ))
all_below B [] Γ vs h g = g
all_below B (x ∷ xs) Γ [] h g = g
all_below B (x ∷ xs) Γ (v ∷ vs) h g = all_below B xs ((x, Some v) ∷ Γ) vs h.1 (h.0, g)

all_append : (B : Name → Type 0) (xs ys : List Name) → All B xs → All B ys → All B (xs ++ ys)
all_append B [] ys h g = g
all_append B (x ∷ xs) ys h g = (h.0, all_append B xs ys h.1 g)

-- two scopes beside each other, in which the same names are bound, and what stands for a name on the left
module _ (N C B : Name → Type 0) (g : Name → Tree) (env senv : Names) (now now' : Vars) (next next' : Option Vars) (defs defs' : List Meaning) where
  abbrev pub Left : Option Data → Names → Scope
  Left part Γ = record { names = Γ ++ env; part = part; now = now; next = next; defs = defs }

  abbrev pub Right : Option Data → Names → Scope
  Right part Γ = record { names = Γ ++ senv; part = part; now = now'; next = next'; defs = defs' }

  abbrev pub put_for : List Name → Name → Tree
  put_for under x = if is_among x under then name x else g x

  -- what stands for a name has its value, where no name bound within hides it
  abbrev pub NamesAgree : Type 0
  NamesAgree = (Γ : Names) (part : Option Data) (x : Name) → All B (names Γ) → N x → is_among x (names Γ) ≡ false → sem (g x) (Left part Γ) ≡ plain (value_of_name x (Right part Γ))

  -- what is applied is the same
  abbrev pub CallsAgree : Type 0
  CallsAgree = (Γ : Names) (part : Option Data) (x : Name) (args : List Data) → All B (names Γ) → C x → value_of_call x args (Left part Γ) ≡ value_of_call x args (Right part Γ)

  bound_step : (b c : Bool) (v : Option Data) (f f' : Option (Option Data)) (o o' : Option Data) → b || c ≡ true → (c ≡ true → or_else f (λ v. v) o ≡ or_else f' (λ v. v) o') → or_else (if b then Some v else f) (λ v. v) o ≡ or_else (if b then Some v else f') (λ v. v) o'
  bound_step true c v f f' o o' h g = refl
  bound_step false c v f f' o o' h g = g h

  -- a name that is bound within is the same on both sides
  bound_within : (Γ : Names) (x : Name) → is_among x (names Γ) ≡ true → (o : Option Data) (o' : Option Data) → or_else (find x (Γ ++ env)) (λ v. v) o ≡ or_else (find x (Γ ++ senv)) (λ v. v) o'
  bound_within [] x h o o' = absurd (grind (arith, h))
  bound_within (p ∷ Γ) x h o o' = bound_step (same_name x p.0) (is_among x (names Γ)) p.1 (find x (Γ ++ env)) (find x (Γ ++ senv)) o o' h (λ e. bound_within Γ x e o o')

  name_case : NamesAgree → (Γ : Names) (part : Option Data) (x : Name) → All B (names Γ) → N x → (b : Bool) → is_among x (names Γ) ≡ b → sem (if b then name x else g x) (Left part Γ) ≡ plain (value_of_name x (Right part Γ))
  name_case ok Γ part x bs n true e = ap plain (bound_within Γ x e _ _)
  name_case ok Γ part x bs n false e = ok Γ part x bs n e

  some_agree : (over : List (Name × List Data)) (f f' : Names → Option Bool) (Γ : Names) → All B (names_over over) → All B (names Γ) → ((Δ : Names) → names Δ ≡ below (names_over over) (names Γ) → All B (names Δ) → f (Δ ++ env) ≡ f' (Δ ++ senv)) → some_of over f (Γ ++ env) ≡ some_of over f' (Γ ++ senv)
  some_agree [] f f' Γ bs cs h = h Γ refl cs
  some_agree (b ∷ over) f f' Γ bs cs h =
      let p = λ (m : Data). some_agree over f f' ((b.0, Some m) ∷ Γ) bs.1 (bs.0, cs) h in
      λ i. any3 (λ m. p m i) b.1

  every_agree : (over : List (Name × List Data)) (f f' : Names → Option Bool) (Γ : Names) → All B (names_over over) → All B (names Γ) → ((Δ : Names) → names Δ ≡ below (names_over over) (names Γ) → All B (names Δ) → f (Δ ++ env) ≡ f' (Δ ++ senv)) → every_of over f (Γ ++ env) ≡ every_of over f' (Γ ++ senv)
  every_agree [] f f' Γ bs cs h = h Γ refl cs
  every_agree (b ∷ over) f f' Γ bs cs h =
      let p = λ (m : Data). every_agree over f f' ((b.0, Some m) ∷ Γ) bs.1 (bs.0, cs) h in
      λ i. all3 (λ m. p m i) b.1

  quantify_agree : (q : Quantifier) (over : List (Name × List Data)) (f f' : Names → Option Bool) (Γ : Names) → All B (names_over over) → All B (names Γ) → ((Δ : Names) → names Δ ≡ below (names_over over) (names Γ) → All B (names Δ) → f (Δ ++ env) ≡ f' (Δ ++ senv)) → quantify q over f (Γ ++ env) ≡ quantify q over f' (Γ ++ senv)
  quantify_agree quantifiers.Exists over f f' Γ bs cs h = some_agree over f f' Γ bs cs h
  quantify_agree quantifiers.Forall over f f' Γ bs cs h = every_agree over f f' Γ bs cs h

  function_agree : (over : List (Name × List Data)) (f f' : Names → Option Data) (Γ : Names) → All B (names_over over) → All B (names Γ) → ((Δ : Names) → names Δ ≡ below (names_over over) (names Γ) → All B (names Δ) → f (Δ ++ env) ≡ f' (Δ ++ senv)) → function_over over f (Γ ++ env) ≡ function_over over f' (Γ ++ senv)
  function_agree over f f' Γ bs cs h =
      let xs = names_over over in
      let at_values : (vs : List Data) → length vs ≡ length (sets_over over) → f (name_values xs vs (Γ ++ env)) ≡ f' (name_values xs vs (Γ ++ senv)) = λ vs e.
      (let l = e ∙ sets_names over in
      ap f (values_before xs vs Γ env)
      ∙ h (name_values xs vs Γ) (values_names xs vs Γ l) (all_below B xs Γ vs bs cs)
      ∙ sym (ap f' (values_before xs vs Γ senv))) in
      let all = each_long (length (sets_over over)) (λ vs. both (λ k v. Some (k, v)) (index_of vs) (f (name_values xs vs (Γ ++ env)))) (λ vs. both (λ k v. Some (k, v)) (index_of vs) (f' (name_values xs vs (Γ ++ senv)))) (choices (sets_over over)) (long_choices (sets_over over)) (λ vs e. ap (λ o. both (λ k v. Some (k, v)) (index_of vs) o) (at_values vs e)) in
      λ i. where_few (choice_count (sets_over over)) (λ _. option_and_then function_from (all i))

  abbrev Under : Tree → Type 0
  Under e = (part : Option Data) (Γ : Names) → All B (names Γ) → sem (replaced put_for (names Γ) e) (Left part Γ) ≡ sem e (Right part Γ)

  bound_all : (bs : BoundTrees) → PlainBound N C B bs → All B (names_bound bs)
  bound_all no_bound h = tt
  bound_all (more_bound xs r bs) h = all_append B xs (names_bound bs) h.0 (bound_all bs h.2)

  body_under : (bs : BoundTrees) (e : Tree) → Under e → (part : Option Data) (Γ : Names) (over : List (Name × List Data)) → ranges bs (Right part Γ) ≡ Some over → (Δ : Names) → names Δ ≡ below (names_over over) (names Γ) → All B (names Δ) → sem (replaced put_for (below (names_bound bs) (names Γ)) e) (Left part Δ) ≡ sem e (Right part Δ)
  body_under bs e u part Γ over r Δ d ok =
      ap (λ xs. sem (replaced put_for (below xs (names Γ)) e) (Left part Δ)) (sym (ranges_names bs (Right part Γ) over r))
      ∙ ap (λ xs. sem (replaced put_for xs e) (Left part Δ)) (sym d) ∙ u part Δ ok

  over_all : (bs : BoundTrees) (s : Scope) (over : List (Name × List Data)) → ranges bs s ≡ Some over → PlainBound N C B bs → All B (names_over over)
  over_all bs s over r h = let P : List Name → Type 0 = λ xs. All B xs in subst P (sym (ranges_names bs s over r)) (bound_all bs h)

  quantified_case : (q : Quantifier) (bs : BoundTrees) (p : Tree) → PlainBound N C B bs → Under p → (part : Option Data) (Γ : Names) → All B (names Γ) → (o : Option (List (Name × List Data))) → ranges bs (Right part Γ) ≡ o → option_and_then (λ over. from_truth (quantify q over (λ ns. truth_of (sem (replaced put_for (below (names_bound bs) (names Γ)) p) (with_names ns (Left part Γ))).value) (Γ ++ env))) o ≡ option_and_then (λ over. from_truth (quantify q over (λ ns. truth_of (sem p (with_names ns (Right part Γ))).value) (Γ ++ senv))) o
  quantified_case q bs p h u part Γ ok None r = refl
  quantified_case q bs p h u part Γ ok (Some over) r =
      ap from_truth (quantify_agree q over (λ ns. truth_of (sem (replaced put_for (below (names_bound bs) (names Γ)) p) (with_names ns (Left part Γ))).value) (λ ns. truth_of (sem p (with_names ns (Right part Γ))).value) Γ (over_all bs (Right part Γ) over r h) ok (λ Δ d okΔ. ap (λ o. truth_of o.value) (body_under bs p u part Γ over r Δ d okΔ)))

  function_case : (bs : BoundTrees) (e : Tree) → PlainBound N C B bs → Under e → (part : Option Data) (Γ : Names) → All B (names Γ) → (o : Option (List (Name × List Data))) → ranges bs (Right part Γ) ≡ o → option_and_then (λ over. function_over over (λ ns. (sem (replaced put_for (below (names_bound bs) (names Γ)) e) (with_names ns (Left part Γ))).value) (Γ ++ env)) o ≡ option_and_then (λ over. function_over over (λ ns. (sem e (with_names ns (Right part Γ))).value) (Γ ++ senv)) o
  function_case bs e h u part Γ ok None r = refl
  function_case bs e h u part Γ ok (Some over) r =
      function_agree over (λ ns. (sem (replaced put_for (below (names_bound bs) (names Γ)) e) (with_names ns (Left part Γ))).value) (λ ns. (sem e (with_names ns (Right part Γ))).value) Γ (over_all bs (Right part Γ) over r h) ok (λ Δ d okΔ. ap (λ o. o.value) (body_under bs e u part Γ over r Δ d okΔ))

  -- the names of a LET with their values
  abbrev letted : NamedTrees → Option Data → Names → Names
  letted no_named part Γ = Γ
  letted (more_named x t ts) part Γ = letted ts part ((x, (sem t (Right part Γ)).value) ∷ Γ)

  letted_names : (ds : NamedTrees) (part : Option Data) (Γ : Names) → names (letted ds part Γ) ≡ below (names_of ds) (names Γ)
  letted_names no_named part Γ = refl
  letted_names (more_named x t ts) part Γ = letted_names ts part ((x, (sem t (Right part Γ)).value) ∷ Γ)

  letted_all : (ds : NamedTrees) (part : Option Data) (Γ : Names) → PlainLet N C B ds → All B (names Γ) → All B (names (letted ds part Γ))
  letted_all no_named part Γ h ok = ok
  letted_all (more_named x t ts) part Γ h ok = letted_all ts part ((x, (sem t (Right part Γ)).value) ∷ Γ) h.2 (h.0, ok)

  letted_right : (ds : NamedTrees) (part : Option Data) (Γ : Names) → let_scope ds (Right part Γ) ≡ Right part (letted ds part Γ)
  letted_right no_named part Γ = refl
  letted_right (more_named x t ts) part Γ = letted_right ts part ((x, (sem t (Right part Γ)).value) ∷ Γ)

  let_under : (ds : NamedTrees) (e : Tree) → PlainLet N C B ds → Under e → (part : Option Data) (Γ : Names) → All B (names Γ) → let_scope (replaced_let put_for (names Γ) ds) (Left part Γ) ≡ Left part (letted ds part Γ) → sem (replaced put_for (below (names_of ds) (names Γ)) e) (let_scope (replaced_let put_for (names Γ) ds) (Left part Γ)) ≡ sem e (let_scope ds (Right part Γ))
  let_under ds e h u part Γ ok left =
      ap (λ s. sem (replaced put_for (below (names_of ds) (names Γ)) e) s) left
      ∙ ap (λ xs. sem (replaced put_for xs e) (Left part (letted ds part Γ))) (sym (letted_names ds part Γ))
      ∙ u part (letted ds part Γ) (letted_all ds part Γ h ok)
      ∙ ap (λ s. sem e s) (sym (letted_right ds part Γ))

  module _ (names_agree : NamesAgree) (calls_agree : CallsAgree) where
    mutual
      pub under : (e : Tree) → Plain N C B e → (part : Option Data) (Γ : Names) → All B (names Γ) → sem (replaced put_for (names Γ) e) (Left part Γ) ≡ sem e (Right part Γ)
      under (name x) h part Γ ok = name_case names_agree Γ part x ok h (is_among x (names Γ)) refl
      under (primed x) h part Γ ok = absurd h
      under (number z) h part Γ ok = refl
      under (text s) h part Γ ok = refl
      under (truth b) h part Γ ok = refl
      under at h part Γ ok = refl
      under (word w) h part Γ ok = refl
      under (unary o a) h part Γ ok = ap (unary_sem o) (under a h part Γ ok)
      under (binary o a b) h part Γ ok = let p = under a h.0 part Γ ok in let q = under b h.1 part Γ ok in λ i. binary_sem o (p i) (q i)
      under (product ts) h part Γ ok = ap (λ o. functions_sem (option_and_then product_choices o)) (under_all ts h part Γ ok)
      under (cond_of p a b) h part Γ ok =
          let x = under p h.0 part Γ ok in let y = under a h.1 part Γ ok in let z = under b h.2 part Γ ok in
          λ i. plain (decide (truth_of (x i).value) (y i).value (z i).value)
      under (case_of gs) h part Γ ok = ap plain (under_arms gs h part Γ ok None)
      under (case_other gs e) h part Γ ok =
          let x = under e h.1 part Γ ok in
          ap (λ o. plain (case_value (replaced_arms put_for (names Γ) gs) (Left part Γ) o.value)) x ∙ ap plain (under_arms gs h.0 part Γ ok (sem e (Right part Γ)).value)
      under (let_in ds e) h part Γ ok =
          ap (λ o. plain o.value) (let_under ds e h.0 (λ o Δ okΔ. under e h.1 o Δ okΔ) part Γ ok (left_let ds h.0 part Γ ok))
      under (quantified q bs p) h part Γ ok =
          ap (λ over. plain (option_and_then (λ over. from_truth (quantify q over (λ ns. truth_of (sem (replaced put_for (below (names_bound bs) (names Γ)) p) (with_names ns (Left part Γ))).value) (Γ ++ env))) over)) (under_bound bs h.0 part Γ ok)
          ∙ ap plain (quantified_case q bs p h.0 (λ o Δ okΔ. under p h.1 o Δ okΔ) part Γ ok (ranges bs (Right part Γ)) refl)
      under (choose x r p) h part Γ ok =
          let a = under r h.1 part Γ ok in let b = λ (m : Data). under p h.2 part ((x, Some m) ∷ Γ) (h.0, ok) in
          λ i. plain (option_and_then (first3 (λ m. truth_of (b m i).value)) (option_and_then members_of (a i).value))
      under (tuple ts) h part Γ ok = ap (λ o. plain (option_and_then sequence o)) (under_all ts h part Γ ok)
      under (set_of ts) h part Γ ok = ap (λ o. plain (option_and_then set_from o)) (under_all ts h part Γ ok)
      under (filter_of x r p) h part Γ ok =
          let a = under r h.1 part Γ ok in let b = λ (m : Data). under p h.2 part ((x, Some m) ∷ Γ) (h.0, ok) in
          λ i. plain (option_and_then (λ ms. option_and_then set_from (filter3 (λ m. truth_of (b m i).value) ms)) (option_and_then members_of (a i).value))
      under (image e x r) h part Γ ok =
          let a = under r h.1 part Γ ok in let b = λ (m : Data). under e h.2 part ((x, Some m) ∷ Γ) (h.0, ok) in
          λ i. plain (option_and_then (λ ms. option_and_then set_from (each (λ m. (b m i).value) ms)) (option_and_then members_of (a i).value))
      under (fun_of bs e) h part Γ ok =
          ap (λ over. plain (option_and_then (λ over. function_over over (λ ns. (sem (replaced put_for (below (names_bound bs) (names Γ)) e) (with_names ns (Left part Γ))).value) (Γ ++ env)) over)) (under_bound bs h.0 part Γ ok)
          ∙ ap plain (function_case bs e h.0 (λ o Δ okΔ. under e h.1 o Δ okΔ) part Γ ok (ranges bs (Right part Γ)) refl)
      under (fun_set a b) h part Γ ok =
          let p = under a h.0 part Γ ok in let q = under b h.1 part Γ ok in λ i. functions_sem (both function_choices (p i).value (q i).value)
      under (record_of ds) h part Γ ok = ap (λ o. plain (option_and_then function_from o)) (under_fields ds h part Γ ok)
      under (record_set ds) h part Γ ok = ap (λ o. functions_sem (option_and_then record_choices o)) (under_fields ds h part Γ ok)
      under (except f us) h part Γ ok =
          let p = under f h.0 part Γ ok in
          ap (λ o. plain (updated (replaced_paths put_for (names Γ) us) (Left part Γ) o.value)) p ∙ ap plain (under_paths us h.1 part Γ ok (sem f (Right part Γ)).value)
      under (index f ts) h part Γ ok =
          let p = under f h.0 part Γ ok in let q = under_all ts h.1 part Γ ok in
          λ i. plain (both apply (p i).value (option_and_then index_of (q i)))
      under (field r x) h part Γ ok = ap (λ o. plain (option_and_then (λ v. apply v (string x)) o.value)) (under r h part Γ ok)
      under (call x ts) h part Γ ok =
          let p = under_all ts h.1 part Γ ok in let q = under_asserted ts h.1 part Γ ok in
          let r = λ (args : List Data). calls_agree Γ part x args ok h.0 in
          λ i. plain (if same_name x assert_name then q i else option_and_then (λ args. r args i) (p i))
      under (unchanged xs) h part Γ ok = absurd h

      under_all : (ts : Trees) → PlainAll N C B ts → (part : Option Data) (Γ : Names) → All B (names Γ) → values_of (replaced_all put_for (names Γ) ts) (Left part Γ) ≡ values_of ts (Right part Γ)
      under_all no_trees h part Γ ok = refl
      under_all (more_trees t ts) h part Γ ok =
          let p = under t h.0 part Γ ok in let q = under_all ts h.1 part Γ ok in λ i. both (λ v vs. Some (v ∷ vs)) (p i).value (q i)

      under_asserted : (ts : Trees) → PlainAll N C B ts → (part : Option Data) (Γ : Names) → All B (names Γ) → asserted (replaced_all put_for (names Γ) ts) (Left part Γ) ≡ asserted ts (Right part Γ)
      under_asserted no_trees h part Γ ok = refl
      under_asserted (more_trees e no_trees) h part Γ ok = refl
      under_asserted (more_trees e (more_trees m no_trees)) h part Γ ok = ap (λ o. assert o.value) (under e h.0 part Γ ok)
      under_asserted (more_trees e (more_trees m (more_trees t ts))) h part Γ ok = refl

      under_arms : (gs : TreePairs) → PlainArms N C B gs → (part : Option Data) (Γ : Names) → All B (names Γ) → (o : Option Data) → case_value (replaced_arms put_for (names Γ) gs) (Left part Γ) o ≡ case_value gs (Right part Γ) o
      under_arms no_arms h part Γ ok o = refl
      under_arms (more_arms g e gs) h part Γ ok o =
          let p = under g h.0 part Γ ok in let q = under e h.1 part Γ ok in let r = under_arms gs h.2 part Γ ok o in
          λ i. decide (truth_of (p i).value) (q i).value (r i)

      under_fields : (ds : NamedTrees) → PlainFields N C B ds → (part : Option Data) (Γ : Names) → All B (names Γ) → fields (replaced_fields put_for (names Γ) ds) (Left part Γ) ≡ fields ds (Right part Γ)
      under_fields no_named h part Γ ok = refl
      under_fields (more_named x t ts) h part Γ ok =
          let p = under t h.0 part Γ ok in let q = under_fields ts h.1 part Γ ok in λ i. both (λ v rest. Some ((string x, v) ∷ rest)) (p i).value (q i)

      left_let : (ds : NamedTrees) → PlainLet N C B ds → (part : Option Data) (Γ : Names) → All B (names Γ) → let_scope (replaced_let put_for (names Γ) ds) (Left part Γ) ≡ Left part (letted ds part Γ)
      left_let no_named h part Γ ok = refl
      left_let (more_named x t ts) h part Γ ok =
          ap (λ o. let_scope (replaced_let put_for (x ∷ names Γ) ts) (with_name x o.value (Left part Γ))) (under t h.1 part Γ ok)
          ∙ left_let ts h.2 part ((x, (sem t (Right part Γ)).value) ∷ Γ) (h.0, ok)

      under_bound : (bs : BoundTrees) → PlainBound N C B bs → (part : Option Data) (Γ : Names) → All B (names Γ) → ranges (replaced_bound put_for (names Γ) bs) (Left part Γ) ≡ ranges bs (Right part Γ)
      under_bound no_bound h part Γ ok = refl
      under_bound (more_bound xs r bs) h part Γ ok =
          let p = under r h.1 part Γ ok in let q = under_bound bs h.2 part Γ ok in
          λ i. both (λ ms rest. Some (over_each xs ms rest)) (option_and_then members_of (p i).value) (q i)

      under_paths : (us : PathTrees) → PlainPaths N C B us → (part : Option Data) (Γ : Names) → All B (names Γ) → (f : Option Data) → updated (replaced_paths put_for (names Γ) us) (Left part Γ) f ≡ updated us (Right part Γ) f
      under_paths no_paths h part Γ ok f = refl
      under_paths (more_paths ps e us) h part Γ ok f =
          let p = under_all ps h.0 part Γ ok in
          let q = λ (o : Option Data). under e h.1 o Γ ok in
          let here = λ (path : Option (List Data)) (new : Option Data → Option Data). option_and_then (λ path. option_and_then (λ v. put_at path new (Some v)) f) path in
          (λ i. updated (replaced_paths put_for (names Γ) us) (Left part Γ) (here (p i) (λ o. (q o i).value)))
          ∙ under_paths us h.2 part Γ ok (here (values_of ps (Right part Γ)) (λ o. (sem e (with_part o (Right part Γ))).value))
