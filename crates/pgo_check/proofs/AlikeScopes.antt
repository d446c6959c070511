-- Two scopes that tell nothing apart but names that an expression hasn't give it one value.
use Rattle.std.proofs.Common.{◌≡◌, Bool, true, List, [], ◌∷◌, Option, Some, None, refl, option_and_then}
use Rattle.std.specs.Prelude.{if◌then◌else◌}
use Rattle.pgo_base.specs.Data.{Data, string}
use Rattle.pgo_base.specs.Tree.{Tree, name, primed, number, text, truth, at, word, unary, binary, product, cond_of, case_of, case_other, let_in, quantified, choose, tuple, set_of, filter_of, image, fun_of, fun_set, record_of, record_set, except, index, field, call, unchanged, Trees, no_trees, more_trees, NamedTrees, no_named, more_named, TreePairs, no_arms, more_arms, BoundTrees, no_bound, more_bound, PathTrees, no_paths, more_paths}
use Rattle.pgo_base.specs.Lookup.{Name, Names, same_name, find}
use Rattle.pgo_model.specs.Operators.{both, put_at, apply, first3, filter3, each, from_truth, truth_of, sequence, set_from, function_from, members_of}
use Rattle.pgo_model.specs.FunctionSets.{product_choices, function_choices, record_choices}
use Rattle.pgo_model.specs.Sequences.{operators, assert_name, assert}
use Rattle.pgo_model.specs.Val.{Scope, plain, sem, values_of, asserted, let_scope, case_value, ranges, fields, updated, call_def, or_else, with_name, with_names, with_part, functions_sem, unary_sem, binary_sem, decide, quantify, function_over, index_of, over_each}
use Rattle.pgo_sections.specs.Plain.{PlainAll, PlainArms, PlainFields, PlainLet, PlainBound, PlainPaths}
use Rattle.pgo_check.specs.Constants.{IsFixed, IsAny, IsConstant}

-- they see the same names and the same `@`; of variables and definitions the same under names that are fixed
pub record Alike (varies : Name → Bool) (s t : Scope) : Type 0 where
  pub names : s.names ≡ t.names
  pub part : s.part ≡ t.part
  pub now : (x : Name) → IsFixed varies x → find x s.now ≡ find x t.now
  pub calls : (x : Name) (args : List Data) → IsFixed varies x → call_def x args s.defs ≡ call_def x args t.defs

module _ (varies : Name → Bool) where
  under_names : (s t : Scope) (ns : Names) → Alike varies s t → Alike varies (with_names ns s) (with_names ns t)
  under_names s t ns a = record { names = refl; part = a.part; now = a.now; calls = a.calls }

  under_name : (s t : Scope) (x : Name) (o p : Option Data) → o ≡ p → Alike varies s t → Alike varies (with_name x o s) (with_name x p t)
  under_name s t x o p e a = record { names = λ i. (x, e i) ∷ a.names i; part = a.part; now = a.now; calls = a.calls }

  under_part : (s t : Scope) (o : Option Data) → Alike varies s t → Alike varies (with_part o s) (with_part o t)
  under_part s t o a = record { names = a.names; part = refl; now = a.now; calls = a.calls }

  mutual
    pub sem_alike : (e : Tree) (s t : Scope) → Alike varies s t → IsConstant varies e → sem e s ≡ sem e t
    sem_alike (name x) s t a h = λ i. plain (or_else (find x (a.names i)) (λ o. o) (or_else (a.now x h i) (λ v. Some v) (a.calls x [] h i)))
    sem_alike (primed x) s t a h = absurd h
    sem_alike (number z) s t a h = refl
    sem_alike (text u) s t a h = refl
    sem_alike (truth b) s t a h = refl
    sem_alike at s t a h = λ i. plain (a.part i)
    sem_alike (word w) s t a h = refl
    sem_alike (unary o e) s t a h = λ i. unary_sem o (sem_alike e s t a h i)
    sem_alike (binary o e f) s t a h = λ i. binary_sem o (sem_alike e s t a h.0 i) (sem_alike f s t a h.1 i)
    sem_alike (product ts) s t a h = λ i. functions_sem (option_and_then product_choices (values_alike ts s t a h i))
    sem_alike (cond_of p e f) s t a h =
        λ i. plain (decide (truth_of (sem_alike p s t a h.0 i).value) (sem_alike e s t a h.1 i).value (sem_alike f s t a h.2 i).value)
    sem_alike (case_of gs) s t a h = λ i. plain (case_alike gs s t a h None None refl i)
    sem_alike (case_other gs e) s t a h =
        λ i. plain (case_alike gs s t a h.0 (sem e s).value (sem e t).value (λ j. (sem_alike e s t a h.1 j).value) i)
    sem_alike (let_in ds e) s t a h =
        λ i. plain (sem_alike e (let_scope ds s) (let_scope ds t) (let_alike ds s t a h.0) h.1 i).value
    sem_alike (quantified q bs p) s t a h =
        λ i. plain (option_and_then (λ over. from_truth (quantify q over (λ ns. truth_of (sem_alike p (with_names ns s) (with_names ns t) (under_names s t ns a) h.1 i).value) (a.names i))) (ranges_alike bs s t a h.0 i))
    sem_alike (choose x r p) s t a h =
        λ i. plain (option_and_then (first3 (λ m. truth_of (sem_alike p (with_name x (Some m) s) (with_name x (Some m) t) (under_name s t x (Some m) (Some m) refl a) h.2 i).value)) (option_and_then members_of (sem_alike r s t a h.1 i).value))
    sem_alike (tuple ts) s t a h = λ i. plain (option_and_then sequence (values_alike ts s t a h i))
    sem_alike (set_of ts) s t a h = λ i. plain (option_and_then set_from (values_alike ts s t a h i))
    sem_alike (filter_of x r p) s t a h =
        λ i. plain (option_and_then (λ ms. option_and_then set_from (filter3 (λ m. truth_of (sem_alike p (with_name x (Some m) s) (with_name x (Some m) t) (under_name s t x (Some m) (Some m) refl a) h.2 i).value) ms)) (option_and_then members_of (sem_alike r s t a h.1 i).value))
    sem_alike (image e x r) s t a h =
        λ i. plain (option_and_then (λ ms. option_and_then set_from (each (λ m. (sem_alike e (with_name x (Some m) s) (with_name x (Some m) t) (under_name s t x (Some m) (Some m) refl a) h.2 i).value) ms)) (option_and_then members_of (sem_alike r s t a h.1 i).value))
    sem_alike (fun_of bs e) s t a h =
        λ i. plain (option_and_then (λ over. function_over over (λ ns. (sem_alike e (with_names ns s) (with_names ns t) (under_names s t ns a) h.1 i).value) (a.names i)) (ranges_alike bs s t a h.0 i))
    sem_alike (fun_set e f) s t a h = λ i. functions_sem (both function_choices (sem_alike e s t a h.0 i).value (sem_alike f s t a h.1 i).value)
    sem_alike (record_of ds) s t a h = λ i. plain (option_and_then function_from (fields_alike ds s t a h i))
    sem_alike (record_set ds) s t a h = λ i. functions_sem (option_and_then record_choices (fields_alike ds s t a h i))
    sem_alike (except f us) s t a h = λ i. plain (updated_alike us s t a h.1 (sem f s).value (sem f t).value (λ j. (sem_alike f s t a h.0 j).value) i)
    sem_alike (index f ts) s t a h = λ i. plain (both apply (sem_alike f s t a h.0 i).value (option_and_then index_of (values_alike ts s t a h.1 i)))
    sem_alike (field r x) s t a h = λ i. plain (option_and_then (λ v. apply v (string x)) (sem_alike r s t a h i).value)
    sem_alike (call x ts) s t a h =
        λ i. plain (if same_name x assert_name then asserted_alike ts s t a h.1 i else option_and_then (λ args. or_else (find x operators) (λ f. f args) (or_else (find x (a.names i)) (λ o. None) (or_else (a.now x h.0 i) (λ v. None) (a.calls x args h.0 i)))) (values_alike ts s t a h.1 i))
    sem_alike (unchanged xs) s t a h = absurd h

    values_alike : (ts : Trees) (s t : Scope) → Alike varies s t → PlainAll (IsFixed varies) (IsFixed varies) IsAny ts → values_of ts s ≡ values_of ts t
    values_alike no_trees s t a h = refl
    values_alike (more_trees e ts) s t a h = λ i. both (λ v vs. Some (v ∷ vs)) (sem_alike e s t a h.0 i).value (values_alike ts s t a h.1 i)

    asserted_alike : (ts : Trees) (s t : Scope) → Alike varies s t → PlainAll (IsFixed varies) (IsFixed varies) IsAny ts → asserted ts s ≡ asserted ts t
    asserted_alike no_trees s t a h = refl
    asserted_alike (more_trees e no_trees) s t a h = refl
    asserted_alike (more_trees e (more_trees m no_trees)) s t a h = λ i. assert (sem_alike e s t a h.0 i).value
    asserted_alike (more_trees e (more_trees m (more_trees n ts))) s t a h = refl

    let_alike : (ds : NamedTrees) (s t : Scope) → Alike varies s t → PlainLet (IsFixed varies) (IsFixed varies) IsAny ds → Alike varies (let_scope ds s) (let_scope ds t)
    let_alike no_named s t a h = a
    let_alike (more_named x e ds) s t a h =
        let_alike ds (with_name x (sem e s).value s) (with_name x (sem e t).value t) (under_name s t x (sem e s).value (sem e t).value (λ i. (sem_alike e s t a h.1 i).value) a) h.2

    case_alike : (gs : TreePairs) (s t : Scope) → Alike varies s t → PlainArms (IsFixed varies) (IsFixed varies) IsAny gs → (o p : Option Data) → o ≡ p → case_value gs s o ≡ case_value gs t p
    case_alike no_arms s t a h o p e = e
    case_alike (more_arms g f gs) s t a h o p e =
        λ i. decide (truth_of (sem_alike g s t a h.0 i).value) (sem_alike f s t a h.1 i).value (case_alike gs s t a h.2 o p e i)

    ranges_alike : (bs : BoundTrees) (s t : Scope) → Alike varies s t → PlainBound (IsFixed varies) (IsFixed varies) IsAny bs → ranges bs s ≡ ranges bs t
    ranges_alike no_bound s t a h = refl
    ranges_alike (more_bound xs r bs) s t a h =
        λ i. both (λ ms rest. Some (over_each xs ms rest)) (option_and_then members_of (sem_alike r s t a h.1 i).value) (ranges_alike bs s t a h.2 i)

    fields_alike : (ds : NamedTrees) (s t : Scope) → Alike varies s t → PlainFields (IsFixed varies) (IsFixed varies) IsAny ds → fields ds s ≡ fields ds t
    fields_alike no_named s t a h = refl
    fields_alike (more_named x e ds) s t a h = λ i. both (λ v rest. Some ((string x, v) ∷ rest)) (sem_alike e s t a h.0 i).value (fields_alike ds s t a h.1 i)

    updated_alike : (us : PathTrees) (s t : Scope) → Alike varies s t → PlainPaths (IsFixed varies) (IsFixed varies) IsAny us → (o p : Option Data) → o ≡ p → updated us s o ≡ updated us t p
    updated_alike no_paths s t a h o p e = e
    updated_alike (more_paths ps f us) s t a h o p e =
        updated_alike us s t a h.2 (option_and_then (λ path. option_and_then (λ v. put_at path (λ part. (sem f (with_part part s)).value) (Some v)) o) (values_of ps s)) (option_and_then (λ path. option_and_then (λ v. put_at path (λ part. (sem f (with_part part t)).value) (Some v)) p) (values_of ps t)) (λ i. option_and_then (λ path. option_and_then (λ v. put_at path (λ part. (sem_alike f (with_part part s) (with_part part t) (under_part s t part a) h.1 i).value) (Some v)) (e i)) (values_alike ps s t a h.0 i))
