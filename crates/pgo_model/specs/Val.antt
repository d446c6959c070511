-- What an expression means: a value or none, by recursion on the expression.
use Rattle.std.specs.Prelude.{◌&&◌, ℕ, ℤ, pos, ◌-ℤ◌, ◌+ℤ◌, ◌*ℤ◌, Bool, true, false, not, ◌==◌, if◌then◌else◌, int_lt, List, [], ◌∷◌, length, map, fold, Option, Some, None, option_map, option_and_then}
use Rattle.pgo_base.specs.declared.expr.Prefix.{Prefix}
use Rattle.pgo_base.specs.declared.expr.Infix.{Infix}
use Rattle.pgo_base.specs.declared.expr.Quantifier.{Quantifier}
use Rattle.pgo_base.specs.declared.expr.Word.{Word}
use Rattle.pgo_base.specs.declared.expr.Prefix.TheVariants as prefixs
use Rattle.pgo_base.specs.declared.expr.Infix.TheVariants as infixs
use Rattle.pgo_base.specs.declared.expr.Quantifier.TheVariants as quantifiers
use Rattle.pgo_base.specs.declared.expr.Word.TheVariants as words
use Rattle.pgo_base.specs.Data.{Data, boolean, integer, string, model, set, items, members}
use Rattle.pgo_base.specs.Tree.{Tree, name, primed, number, text, truth, at, word, unary, binary, product, cond_of, case_of, case_other, let_in, quantified, choose, tuple, set_of, filter_of, image, fun_of, fun_set, record_of, record_set, except, index, field, call, unchanged, Trees, no_trees, more_trees, NamedTrees, no_named, more_named, TreePairs, no_arms, more_arms, BoundTrees, no_bound, more_bound, PathTrees, no_paths, more_paths}
use Rattle.pgo_base.specs.Lookup.{Name, Names, Vars, same_name, find}
use Rattle.pgo_model.specs.Operators.{or3, not3, and3, iff3, truth_of, from_truth, any3, all3, first3, filter3, both, each, in_64, on_integers, same_data, where_few, set_from, function_from, members_of, is_member, apply, domain, sequence, choices, range, within_range, put_at, union, intersect, minus, included, subset, flatten, power, single, merge, divide, modulo}
use Rattle.pgo_model.specs.FunctionSets.{Choices, choice_count, functions_over, fits, product_choices, function_choices, record_choices}
use Rattle.pgo_model.specs.Written.{default_init_value}
use Rattle.pgo_model.specs.Sequences.{concat, operators, assert_name, assert}

-- a definition that has been given a meaning: what it is for these arguments
pub record Meaning : Type 0 where
  pub name : Name
  pub arity : ℕ
  pub gives : List Data → Option Data

-- what an expression sees: the names in scope, the newest first; what `@` stands for; the variables now and
-- next; and the definitions, the newest first
pub record Scope : Type 0 where
  pub names : Names
  pub part : Option Data
  pub now : Vars
  pub next : Option Vars
  pub defs : List Meaning

-- an expression by itself has a value or none; at the right of `\in` it holds values
pub record Sem : Type 0 where
  pub value : Option Data
  pub holds : Data → Option Bool

-- an expression that holds the members of its value
abbrev pub plain : Option Data → Sem
plain v = record { value = v; holds = λ x. is_member x v }

-- a definition applied to these arguments; the newest of the name decides
abbrev pub call_def : Name → List Data → List Meaning → Option Data
call_def x args [] = None
call_def x args (m ∷ ms) =
    if same_name x m.name then (if length args == m.arity then m.gives args else None) else call_def x args ms

-- f of what is there, else b
abbrev pub or_else : {A B : Type 0} → Option A → (A → B) → B → B
or_else None f b = b
or_else (Some a) f b = f a

-- what a name stands for: in scope, among the variables, among the definitions
abbrev pub value_of_name : Name → Scope → Option Data
value_of_name x s =
    or_else (find x s.names) (λ o. o) (or_else (find x s.now) (λ v. Some v) (call_def x [] s.defs))

-- a primed name is a variable of the next state
abbrev pub value_of_primed : Name → Scope → Option Data
value_of_primed x s = option_and_then (find x) s.next

-- the operators of the modules are not looked up; a name or a variable takes no arguments, so a call of one has
-- no value
abbrev pub value_of_call : Name → List Data → Scope → Option Data
value_of_call x args s =
    or_else (find x operators) (λ f. f args) (or_else (find x s.names) (λ o. None) (or_else (find x s.now) (λ v. None) (call_def x args s.defs)))

-- one more name in scope
abbrev pub with_name : Name → Option Data → Scope → Scope
with_name x v s = record s { names = (x, v) ∷ s.names }

-- other names in scope
abbrev pub with_names : Names → Scope → Scope
with_names ns s = record s { names = ns }

-- what `@` stands for
abbrev pub with_part : Option Data → Scope → Scope
with_part v s = record s { part = v }

-- a member of Nat
abbrev pub is_nat : Data → Bool
is_nat (integer (pos n)) = true
is_nat _ = false

-- a member of Int
abbrev pub is_int : Data → Bool
is_int (integer z) = true
is_int _ = false

-- a member of STRING
abbrev pub is_string : Data → Bool
is_string (string t) = true
is_string _ = false

-- x is one of the integers from y to z
abbrev pub range_holds : Data → Data → Data → Option Bool
range_holds x (integer y) (integer z) = Some (within_range y z x)
range_holds x _ _ = None

-- x is a set of some of these members
abbrev pub is_subset : List Data → Data → Bool
is_subset ms (set xs) = included (members xs) ms
is_subset ms _ = false

-- a set of functions, and what is among them
abbrev pub functions_sem : Option Choices → Sem
functions_sem cs = record { value = option_and_then functions_over cs; holds = λ x. option_map (λ c. fits c x) cs }

-- SUBSET, and what is among the subsets
abbrev pub power_sem : Option Data → Sem
power_sem a = record {
  value = option_and_then power a;
  holds = λ x. option_map (λ ms. is_subset ms x) (option_and_then members_of a);
}

-- .., and what is among these integers
abbrev pub range_sem : Option Data → Option Data → Sem
range_sem a b = record { value = both (on_integers range) a b; holds = λ x. both (range_holds x) a b }

-- BOOLEAN is a set; Nat, Int and STRING have no value, and hold what they name
abbrev pub word_sem : Word → Sem
word_sem words.BooleanSet = plain (Some (set (items (boolean false ∷ boolean true ∷ []))))
word_sem words.Nat = record { value = None; holds = λ x. Some (is_nat x) }
word_sem words.Int = record { value = None; holds = λ x. Some (is_int x) }
word_sem words.StringSet = record { value = None; holds = λ x. Some (is_string x) }

-- an operator before its operand
abbrev pub unary_sem : Prefix → Sem → Sem
unary_sem prefixs.Not a = plain (from_truth (not3 (truth_of a.value)))
unary_sem prefixs.Minus a = plain (option_and_then (λ x. on_integers (λ y z. in_64 (y -ℤ z)) (integer (pos 0)) x) a.value)
unary_sem prefixs.Powerset a = power_sem a.value
unary_sem prefixs.Flatten a = plain (option_and_then flatten a.value)
unary_sem prefixs.Domain a = plain (option_and_then domain a.value)

-- an operator on truth values
abbrev pub on_truths : (Option Bool → Option Bool → Option Bool) → Option Data → Option Data → Option Data
on_truths f a b = from_truth (f (truth_of a) (truth_of b))

-- an operator on integers, where the result has 64 bits
abbrev pub arithmetic : (ℤ → ℤ → ℤ) → Option Data → Option Data → Option Data
arithmetic f = both (on_integers (λ y z. in_64 (f y z)))

-- an order of integers
abbrev pub comparison : (ℤ → ℤ → Bool) → Option Data → Option Data → Option Data
comparison f = both (on_integers (λ y z. Some (boolean (f y z))))

-- an operator on two values or nones
abbrev pub binary_value : Infix → Option Data → Option Data → Option Data
binary_value infixs.Implies = on_truths (λ p q. or3 (not3 p) q)
binary_value infixs.Iff = on_truths iff3
binary_value infixs.And = on_truths and3
binary_value infixs.Or = on_truths or3
binary_value infixs.Equal = both (λ x y. Some (boolean (same_data x y)))
binary_value infixs.Differs = both (λ x y. Some (boolean (not (same_data x y))))
binary_value infixs.Less = comparison int_lt
binary_value infixs.Greater = comparison (λ y z. int_lt z y)
binary_value infixs.AtMost = comparison (λ y z. not (int_lt z y))
binary_value infixs.AtLeast = comparison (λ y z. not (int_lt y z))
binary_value infixs.In = λ a b. option_and_then (λ x. from_truth (is_member x b)) a
binary_value infixs.NotIn = λ a b. option_and_then (λ x. from_truth (not3 (is_member x b))) a
binary_value infixs.SubsetEq = both subset
binary_value infixs.Merge = both merge
binary_value infixs.Single = both single
binary_value infixs.Union = both union
binary_value infixs.Intersect = both intersect
binary_value infixs.Without = both minus
binary_value infixs.Range = both (on_integers range)
binary_value infixs.Add = arithmetic ◌+ℤ◌
binary_value infixs.Subtract = arithmetic ◌-ℤ◌
binary_value infixs.Modulo = both modulo
binary_value infixs.Multiply = arithmetic ◌*ℤ◌
binary_value infixs.Concat = both concat
binary_value infixs.Divide = both divide

-- `\in` asks the right side what it holds, and `..` is decided there without its set; every other operator, `\notin`
-- too, asks for the set
abbrev pub binary_sem : Infix → Sem → Sem → Sem
binary_sem infixs.In a b = plain (option_and_then (λ x. from_truth (b.holds x)) a.value)
binary_sem infixs.Range a b = range_sem a.value b.value
binary_sem o a b = plain (binary_value o a.value b.value)

-- IF
abbrev pub decide : Option Bool → Option Data → Option Data → Option Data
decide (Some true) a b = a
decide (Some false) a b = b
decide None a b = None

-- several names over one set, before the rest
abbrev pub over_each : List Name → List Data → List (Name × List Data) → List (Name × List Data)
over_each [] ms rest = rest
over_each (x ∷ xs) ms rest = (x, ms) ∷ over_each xs ms rest

-- `\E` over the names from the first on
abbrev pub some_of : List (Name × List Data) → (Names → Option Bool) → Names → Option Bool
some_of [] p ns = p ns
some_of (b ∷ bs) p ns = any3 (λ m. some_of bs p ((b.0, Some m) ∷ ns)) b.1

-- `\A` over the names from the first on
abbrev pub every_of : List (Name × List Data) → (Names → Option Bool) → Names → Option Bool
every_of [] p ns = p ns
every_of (b ∷ bs) p ns = all3 (λ m. every_of bs p ((b.0, Some m) ∷ ns)) b.1

-- the two quantifiers
abbrev pub quantify : Quantifier → List (Name × List Data) → (Names → Option Bool) → Names → Option Bool
quantify quantifiers.Exists = some_of
quantify quantifiers.Forall = every_of

-- these names with these values, before the others
abbrev pub name_values : List Name → List Data → Names → Names
name_values [] vs ns = ns
name_values (x ∷ xs) [] ns = ns
name_values (x ∷ xs) (v ∷ vs) ns = name_values xs vs ((x, Some v) ∷ ns)

-- the names
abbrev pub names_over : List (Name × List Data) → List Name
names_over bs = map (λ b. b.0) bs

-- the members of each
abbrev pub sets_over : List (Name × List Data) → List (List Data)
sets_over bs = map (λ b. b.1) bs

-- the index of a function with these binders: one value, or the tuple of several
abbrev pub index_of : List Data → Option Data
index_of [] = None
index_of (v ∷ []) = Some v
index_of (v ∷ w ∷ vs) = sequence (v ∷ w ∷ vs)

-- the function with these binders whose values f gives
abbrev pub function_over : List (Name × List Data) → (Names → Option Data) → Names → Option Data
function_over bs f ns =
    where_few (choice_count (sets_over bs)) (λ _. option_and_then function_from (each (λ vs. both (λ k v. Some (k, v)) (index_of vs) (f (name_values (names_over bs) vs ns))) (choices (sets_over bs))))

-- whether a variable has the same value in both states, where it is a variable of both
abbrev pub same_variable : Vars → Vars → Name → Option Bool
same_variable now next x = both (λ v w. Some (same_data v w)) (find x now) (find x next)

-- UNCHANGED: whether all of these have
abbrev pub same_variables : List Name → Vars → Vars → Option Bool
same_variables [] now next = Some true
same_variables (x ∷ xs) now next = both (λ p q. Some (p && q)) (same_variable now next x) (same_variables xs now next)

abbrev mutual
  -- what an expression is by itself, and what it holds
  pub sem : Tree → Scope → Sem
  sem (name x) s = plain (value_of_name x s)
  sem (primed x) s = plain (value_of_primed x s)
  sem (number z) s = plain (Some (integer z))
  sem (text t) s = plain (Some (string t))
  sem (truth b) s = plain (Some (boolean b))
  sem at s = plain s.part
  sem (word w) s = word_sem w
  sem (unary o a) s = unary_sem o (sem a s)
  sem (binary o a b) s = binary_sem o (sem a s) (sem b s)
  sem (product ts) s = functions_sem (option_and_then product_choices (values_of ts s))
  sem (cond_of p a b) s = plain (decide (truth_of (sem p s).value) (sem a s).value (sem b s).value)
  sem (case_of gs) s = plain (case_value gs s None)
  sem (case_other gs e) s = plain (case_value gs s (sem e s).value)
  sem (let_in ds e) s = plain (sem e (let_scope ds s)).value
  sem (quantified q bs p) s =
      plain (option_and_then (λ over. from_truth (quantify q over (λ ns. truth_of (sem p (with_names ns s)).value) s.names)) (ranges bs s))
  sem (choose x r p) s =
      plain (option_and_then (first3 (λ m. truth_of (sem p (with_name x (Some m) s)).value)) (option_and_then members_of (sem r s).value))
  sem (tuple ts) s = plain (option_and_then sequence (values_of ts s))
  sem (set_of ts) s = plain (option_and_then set_from (values_of ts s))
  sem (filter_of x r p) s =
      plain (option_and_then (λ ms. option_and_then set_from (filter3 (λ m. truth_of (sem p (with_name x (Some m) s)).value) ms)) (option_and_then members_of (sem r s).value))
  sem (image e x r) s =
      plain (option_and_then (λ ms. option_and_then set_from (each (λ m. (sem e (with_name x (Some m) s)).value) ms)) (option_and_then members_of (sem r s).value))
  sem (fun_of bs e) s =
      plain (option_and_then (λ over. function_over over (λ ns. (sem e (with_names ns s)).value) s.names) (ranges bs s))
  sem (fun_set a b) s = functions_sem (both function_choices (sem a s).value (sem b s).value)
  sem (record_of ds) s = plain (option_and_then function_from (fields ds s))
  sem (record_set ds) s = functions_sem (option_and_then record_choices (fields ds s))
  sem (except f us) s = plain (updated us s (sem f s).value)
  sem (index f ts) s = plain (both apply (sem f s).value (option_and_then index_of (values_of ts s)))
  sem (field r x) s = plain (option_and_then (λ v. apply v (string x)) (sem r s).value)
  sem (call x ts) s =
      plain (if same_name x assert_name then asserted ts s else option_and_then (λ args. value_of_call x args s) (values_of ts s))
  sem (unchanged xs) s = plain (option_and_then (λ next. from_truth (same_variables xs s.now next)) s.next)

  -- the value of each, where all have one
  pub values_of : Trees → Scope → Option (List Data)
  values_of no_trees s = Some []
  values_of (more_trees t ts) s = both (λ v vs. Some (v ∷ vs)) (sem t s).value (values_of ts s)

  -- Assert(e, m), which does not evaluate m
  pub asserted : Trees → Scope → Option Data
  asserted (more_trees e (more_trees m no_trees)) s = assert (sem e s).value
  asserted _ s = None

  -- a LET name stands for a value or none, and sees the names before it
  pub let_scope : NamedTrees → Scope → Scope
  let_scope no_named s = s
  let_scope (more_named x t ds) s = let_scope ds (with_name x (sem t s).value s)

  -- the first arm whose guard is TRUE, where the guards before it are FALSE
  pub case_value : TreePairs → Scope → Option Data → Option Data
  case_value no_arms s other = other
  case_value (more_arms g e gs) s other = decide (truth_of (sem g s).value) (sem e s).value (case_value gs s other)

  -- each bound name with the members of its set; all sets are evaluated outside the names
  pub ranges : BoundTrees → Scope → Option (List (Name × List Data))
  ranges no_bound s = Some []
  ranges (more_bound xs r bs) s =
      both (λ ms rest. Some (over_each xs ms rest)) (option_and_then members_of (sem r s).value) (ranges bs s)

  -- each field, as a string, and its value
  pub fields : NamedTrees → Scope → Option (List (Data × Data))
  fields no_named s = Some []
  fields (more_named x t ds) s = both (λ v rest. Some ((string x, v) ∷ rest)) (sem t s).value (fields ds s)

  -- the updates of EXCEPT from left to right, each on what those before it gave; `@` is the part that it replaces
  pub updated : PathTrees → Scope → Option Data → Option Data
  updated no_paths s f = f
  updated (more_paths ps e us) s f =
      updated us s (option_and_then (λ path. option_and_then (λ v. put_at path (λ part. (sem e (with_part part s)).value) (Some v)) f) (values_of ps s))

-- the value of an expression
abbrev pub val : Tree → Scope → Option Data
val t s = (sem t s).value

-- what stands in a list of definitions: a constant with its value, or a definition with its body
pub data Defined : Type 0 where
  Given : (name : Name) → (value : Data) → Defined
  Means : (name : Name) → (params : List Name) → (body : Tree) → Defined

-- a name that stands for a value
abbrev pub constant_meaning : Name → Data → Meaning
constant_meaning x v = record { name = x; arity = 0; gives = λ args. Some v }

-- a body over its arguments, the variables and the definitions before it
abbrev pub body_meaning : Vars → Option Vars → List Meaning → Name → List Name → Tree → Meaning
body_meaning now next before x ps e = record {
  name = x;
  arity = length ps;
  gives = λ args. val e (record { names = name_values ps args []; part = None; now = now; next = next; defs = before });
}

-- one more definition
abbrev pub meaning_of : Vars → Option Vars → List Meaning → Defined → List Meaning
meaning_of now next before (Given x v) = constant_meaning x v ∷ before
meaning_of now next before (Means x ps e) = body_meaning now next before x ps e ∷ before

-- the definition that every list of definitions begins with: a model value of its name
abbrev pub default_meaning : Meaning
default_meaning = constant_meaning default_init_value (model default_init_value)

-- each definition sees those before it
abbrev pub meanings : List Defined → Vars → Option Vars → List Meaning
meanings ds now next = fold (meaning_of now next) (default_meaning ∷ []) ds

-- what an expression sees by itself: all of these definitions, the names in scope, and the variables now and next
abbrev pub seen : List Defined → Names → Vars → Option Vars → Scope
seen ds names now next = record { names = names; part = None; now = now; next = next; defs = meanings ds now next }

-- the value of an expression that sees these definitions and names, on a state and, where there is one, the next
abbrev pub Val : List Defined → Tree → Names → Vars → Option Vars → Option Data
Val ds e names now next = val e (seen ds names now next)
