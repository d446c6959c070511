-- Two scopes that tell nothing apart but names that an expression avoids give it one value.
use Rattle.std.proofs.Common.{◌≡◌, Bool, false, List, [], ◌∷◌, Option, Some, None, refl, option_and_then}
use Rattle.pgo_base.specs.declared.expr.Quantifier.{Quantifier}
use Rattle.pgo_base.specs.declared.expr.Quantifier.TheVariants as quantifiers
use Rattle.pgo_base.specs.Data.{Data, string}
use Rattle.pgo_base.specs.Tree.{Tree, name, primed, number, text, truth, at, word, unary, binary, product, cond_of, case_of, case_other, let_in, quantified, choose, tuple, set_of, filter_of, image, fun_of, fun_set, record_of, record_set, except, index, field, call, unchanged, Trees, no_trees, more_trees, NamedTrees, no_named, more_named, TreePairs, no_arms, more_arms, BoundTrees, no_bound, more_bound, PathTrees, no_paths, more_paths}
use Rattle.pgo_base.specs.Lookup.{Name, Names, same_name, find}
use Rattle.pgo_model.specs.Operators.{any3, all3, where_few, choices, both, each, put_at, apply, first3, filter3, from_truth, truth_of, sequence, set_from, function_from, members_of}
use Rattle.pgo_model.specs.FunctionSets.{choice_count, product_choices, function_choices, record_choices}
use Rattle.pgo_model.specs.Sequences.{operators, assert_name, assert}
use Rattle.pgo_model.specs.Val.{Scope, plain, sem, values_of, asserted, let_scope, case_value, ranges, fields, updated, call_def, or_else, with_name, with_names, with_part, functions_sem, unary_sem, binary_sem, decide, quantify, function_over, index_of, over_each, some_of, every_of, name_values, names_over, sets_over}
use Rattle.std.specs.Prelude.{if◌then◌else◌}
use Rattle.pgo_sections.specs.Plain.{PlainAll, PlainArms, PlainFields, PlainLet, PlainBound, PlainPaths}
use Rattle.pgo_translate.specs.Avoids.{Good, Free, Avoids}

-- names in scope that stand for the same, but for the bad ones
abbrev pub SameNames : (Name → Bool) → Names → Names → Type 0
SameNames bad ns ms = (x : Name) → bad x ≡ false → find x ns ≡ find x ms

-- they see the same `@`; of names, variables and definitions the same under names that are not bad
pub record Alike (bad : Name → Bool) (s t : Scope) : Type 0 where
  pub names : SameNames bad s.names t.names
  pub part : s.part ≡ t.part
  pub now : (x : Name) → bad x ≡ false → find x s.now ≡ find x t.now
  pub calls : (x : Name) (args : List Data) → bad x ≡ false → call_def x args s.defs ≡ call_def x args t.defs

module _ (bad : Name → Bool) where
  more_names : (x : Name) (o p : Option Data) (ns ms : Names) → o ≡ p → SameNames bad ns ms → SameNames bad ((x, o) ∷ ns) ((x, p) ∷ ms)
  more_names x o p ns ms e a y h = λ i. if same_name y x then Some (e i) else a y h i

  pub under_names : (s t : Scope) → (ns ms : Names) → SameNames bad ns ms → Alike bad s t → Alike bad (with_names ns s) (with_names ms t)
  under_names s t ns ms n a = record { names = n; part = a.part; now = a.now; calls = a.calls }

  pub under_name : (s t : Scope) → (x : Name) (o p : Option Data) → o ≡ p → Alike bad s t → Alike bad (with_name x o s) (with_name x p t)
  under_name s t x o p e a = record { names = more_names x o p s.names t.names e a.names; part = a.part; now = a.now; calls = a.calls }

  pub under_part : (s t : Scope) → (o : Option Data) → Alike bad s t → Alike bad (with_part o s) (with_part o t)
  under_part s t o a = record { names = a.names; part = refl; now = a.now; calls = a.calls }

  some_alike : (bs : List (Name × List Data)) (p q : Names → Option Bool) → ((ns ms : Names) → SameNames bad ns ms → p ns ≡ q ms) → (ns ms : Names) → SameNames bad ns ms → some_of bs p ns ≡ some_of bs q ms
  some_alike [] p q f ns ms a = f ns ms a
  some_alike (b ∷ bs) p q f ns ms a =
      λ i. any3 (λ m. some_alike bs p q f ((b.0, Some m) ∷ ns) ((b.0, Some m) ∷ ms) (more_names b.0 (Some m) (Some m) ns ms refl a) i) b.1

  every_alike : (bs : List (Name × List Data)) (p q : Names → Option Bool) → ((ns ms : Names) → SameNames bad ns ms → p ns ≡ q ms) → (ns ms : Names) → SameNames bad ns ms → every_of bs p ns ≡ every_of bs q ms
  every_alike [] p q f ns ms a = f ns ms a
  every_alike (b ∷ bs) p q f ns ms a =
      λ i. all3 (λ m. every_alike bs p q f ((b.0, Some m) ∷ ns) ((b.0, Some m) ∷ ms) (more_names b.0 (Some m) (Some m) ns ms refl a) i) b.1

  quantify_alike : (k : Quantifier) (bs : List (Name × List Data)) (p q : Names → Option Bool) → ((ns ms : Names) → SameNames bad ns ms → p ns ≡ q ms) → (ns ms : Names) → SameNames bad ns ms → quantify k bs p ns ≡ quantify k bs q ms
  quantify_alike quantifiers.Exists bs p q f ns ms a = some_alike bs p q f ns ms a
  quantify_alike quantifiers.Forall bs p q f ns ms a = every_alike bs p q f ns ms a

  values_named : (xs : List Name) (vs : List Data) (ns ms : Names) → SameNames bad ns ms → SameNames bad (name_values xs vs ns) (name_values xs vs ms)
  values_named [] vs ns ms a = a
  values_named (x ∷ xs) [] ns ms a = a
  values_named (x ∷ xs) (v ∷ vs) ns ms a = values_named xs vs ((x, Some v) ∷ ns) ((x, Some v) ∷ ms) (more_names x (Some v) (Some v) ns ms refl a)

  function_alike : (bs : List (Name × List Data)) (f g : Names → Option Data) → ((ns ms : Names) → SameNames bad ns ms → f ns ≡ g ms) → (ns ms : Names) → SameNames bad ns ms → function_over bs f ns ≡ function_over bs g ms
  function_alike bs f g h ns ms a =
      λ i. where_few (choice_count (sets_over bs)) (λ _. option_and_then function_from (each (λ vs. both (λ k v. Some (k, v)) (index_of vs) (h (name_values (names_over bs) vs ns) (name_values (names_over bs) vs ms) (values_named (names_over bs) vs ns ms a) i)) (choices (sets_over bs))))

  mutual
    pub sem_alike : (e : Tree) (s t : Scope) → Alike bad s t → Avoids bad e → sem e s ≡ sem e t
    sem_alike (name x) s t a h = λ i. plain (or_else (a.names x h i) (λ o. o) (or_else (a.now x h i) (λ v. Some v) (a.calls x [] h i)))
    sem_alike (primed x) s t a h = absurd h
    sem_alike (number z) s t a h = refl
    sem_alike (text u) s t a h = refl
    sem_alike (truth b) s t a h = refl
    sem_alike at s t a h = λ i. plain (a.part i)
    sem_alike (word w) s t a h = refl
    sem_alike (unary o e) s t a h = λ i. unary_sem o (sem_alike e s t a h i)
    sem_alike (binary o e f) s t a h = λ i. binary_sem o (sem_alike e s t a h.0 i) (sem_alike f s t a h.1 i)
    sem_alike (product ts) s t a h = λ i. functions_sem (option_and_then product_choices (values_alike ts s t a h i))
    sem_alike (cond_of p e f) s t a h =
        λ i. plain (decide (truth_of (sem_alike p s t a h.0 i).value) (sem_alike e s t a h.1 i).value (sem_alike f s t a h.2 i).value)
    sem_alike (case_of gs) s t a h = λ i. plain (case_alike gs s t a h None None refl i)
    sem_alike (case_other gs e) s t a h =
        λ i. plain (case_alike gs s t a h.0 (sem e s).value (sem e t).value (λ j. (sem_alike e s t a h.1 j).value) i)
    sem_alike (let_in ds e) s t a h =
        λ i. plain (sem_alike e (let_scope ds s) (let_scope ds t) (let_alike ds s t a h.0) h.1 i).value
    sem_alike (quantified q bs p) s t a h =
        λ i. plain (option_and_then (λ over. from_truth (quantify_alike q over (λ ns. truth_of (sem p (with_names ns s)).value) (λ ms. truth_of (sem p (with_names ms t)).value) (λ ns ms n j. truth_of (sem_alike p (with_names ns s) (with_names ms t) (under_names s t ns ms n a) h.1 j).value) s.names t.names a.names i)) (ranges_alike bs s t a h.0 i))
    sem_alike (choose x r p) s t a h =
        λ i. plain (option_and_then (first3 (λ m. truth_of (sem_alike p (with_name x (Some m) s) (with_name x (Some m) t) (under_name s t x (Some m) (Some m) refl a) h.2 i).value)) (option_and_then members_of (sem_alike r s t a h.1 i).value))
    sem_alike (tuple ts) s t a h = λ i. plain (option_and_then sequence (values_alike ts s t a h i))
    sem_alike (set_of ts) s t a h = λ i. plain (option_and_then set_from (values_alike ts s t a h i))
    sem_alike (filter_of x r p) s t a h =
        λ i. plain (option_and_then (λ ms. option_and_then set_from (filter3 (λ m. truth_of (sem_alike p (with_name x (Some m) s) (with_name x (Some m) t) (under_name s t x (Some m) (Some m) refl a) h.2 i).value) ms)) (option_and_then members_of (sem_alike r s t a h.1 i).value))
    sem_alike (image e x r) s t a h =
        λ i. plain (option_and_then (λ ms. option_and_then set_from (each (λ m. (sem_alike e (with_name x (Some m) s) (with_name x (Some m) t) (under_name s t x (Some m) (Some m) refl a) h.2 i).value) ms)) (option_and_then members_of (sem_alike r s t a h.1 i).value))
    sem_alike (fun_of bs e) s t a h =
        λ i. plain (option_and_then (λ over. function_alike over (λ ns. (sem e (with_names ns s)).value) (λ ms. (sem e (with_names ms t)).value) (λ ns ms n j. (sem_alike e (with_names ns s) (with_names ms t) (under_names s t ns ms n a) h.1 j).value) s.names t.names a.names i) (ranges_alike bs s t a h.0 i))
    sem_alike (fun_set e f) s t a h = λ i. functions_sem (both function_choices (sem_alike e s t a h.0 i).value (sem_alike f s t a h.1 i).value)
    sem_alike (record_of ds) s t a h = λ i. plain (option_and_then function_from (fields_alike ds s t a h i))
    sem_alike (record_set ds) s t a h = λ i. functions_sem (option_and_then record_choices (fields_alike ds s t a h i))
    sem_alike (except f us) s t a h = λ i. plain (updated_alike us s t a h.1 (sem f s).value (sem f t).value (λ j. (sem_alike f s t a h.0 j).value) i)
    sem_alike (index f ts) s t a h = λ i. plain (both apply (sem_alike f s t a h.0 i).value (option_and_then index_of (values_alike ts s t a h.1 i)))
    sem_alike (field r x) s t a h = λ i. plain (option_and_then (λ v. apply v (string x)) (sem_alike r s t a h i).value)
    sem_alike (call x ts) s t a h =
        λ i. plain (if same_name x assert_name then asserted_alike ts s t a h.1 i else option_and_then (λ args. or_else (find x operators) (λ f. f args) (or_else (a.names x h.0 i) (λ o. None) (or_else (a.now x h.0 i) (λ v. None) (a.calls x args h.0 i)))) (values_alike ts s t a h.1 i))
    sem_alike (unchanged xs) s t a h = absurd h

    values_alike : (ts : Trees) (s t : Scope) → Alike bad s t → PlainAll (Good bad) (Good bad) Free ts → values_of ts s ≡ values_of ts t
    values_alike no_trees s t a h = refl
    values_alike (more_trees e ts) s t a h = λ i. both (λ v vs. Some (v ∷ vs)) (sem_alike e s t a h.0 i).value (values_alike ts s t a h.1 i)

    asserted_alike : (ts : Trees) (s t : Scope) → Alike bad s t → PlainAll (Good bad) (Good bad) Free ts → asserted ts s ≡ asserted ts t
    asserted_alike no_trees s t a h = refl
    asserted_alike (more_trees e no_trees) s t a h = refl
    asserted_alike (more_trees e (more_trees m no_trees)) s t a h = λ i. assert (sem_alike e s t a h.0 i).value
    asserted_alike (more_trees e (more_trees m (more_trees n ts))) s t a h = refl

    let_alike : (ds : NamedTrees) (s t : Scope) → Alike bad s t → PlainLet (Good bad) (Good bad) Free ds → Alike bad (let_scope ds s) (let_scope ds t)
    let_alike no_named s t a h = a
    let_alike (more_named x e ds) s t a h =
        let_alike ds (with_name x (sem e s).value s) (with_name x (sem e t).value t) (under_name s t x (sem e s).value (sem e t).value (λ i. (sem_alike e s t a h.1 i).value) a) h.2

    case_alike : (gs : TreePairs) (s t : Scope) → Alike bad s t → PlainArms (Good bad) (Good bad) Free gs → (o p : Option Data) → o ≡ p → case_value gs s o ≡ case_value gs t p
    case_alike no_arms s t a h o p e = e
    case_alike (more_arms g f gs) s t a h o p e =
        λ i. decide (truth_of (sem_alike g s t a h.0 i).value) (sem_alike f s t a h.1 i).value (case_alike gs s t a h.2 o p e i)

    ranges_alike : (bs : BoundTrees) (s t : Scope) → Alike bad s t → PlainBound (Good bad) (Good bad) Free bs → ranges bs s ≡ ranges bs t
    ranges_alike no_bound s t a h = refl
    ranges_alike (more_bound xs r bs) s t a h =
        λ i. both (λ ms rest. Some (over_each xs ms rest)) (option_and_then members_of (sem_alike r s t a h.1 i).value) (ranges_alike bs s t a h.2 i)

    fields_alike : (ds : NamedTrees) (s t : Scope) → Alike bad s t → PlainFields (Good bad) (Good bad) Free ds → fields ds s ≡ fields ds t
    fields_alike no_named s t a h = refl
    fields_alike (more_named x e ds) s t a h = λ i. both (λ v rest. Some ((string x, v) ∷ rest)) (sem_alike e s t a h.0 i).value (fields_alike ds s t a h.1 i)

    updated_alike : (us : PathTrees) (s t : Scope) → Alike bad s t → PlainPaths (Good bad) (Good bad) Free us → (o p : Option Data) → o ≡ p → updated us s o ≡ updated us t p
    updated_alike no_paths s t a h o p e = e
    updated_alike (more_paths ps f us) s t a h o p e =
        updated_alike us s t a h.2 (option_and_then (λ path. option_and_then (λ v. put_at path (λ part. (sem f (with_part part s)).value) (Some v)) o) (values_of ps s)) (option_and_then (λ path. option_and_then (λ v. put_at path (λ part. (sem f (with_part part t)).value) (Some v)) p) (values_of ps t)) (λ i. option_and_then (λ path. option_and_then (λ v. put_at path (λ part. (sem_alike f (with_part part s) (with_part part t) (under_part s t part a) h.1 i).value) (Some v)) (e i)) (values_alike ps s t a h.0 i))
