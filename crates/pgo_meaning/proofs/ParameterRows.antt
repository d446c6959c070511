-- What sections read and write of unmapped parameters, value parameters and locals, worked out by hand.
use Rattle.std.specs.Prelude.{◌≡◌, true, false, pos, [], ◌∷◌, Some, None, codes, refl}
use Rattle.pgo_base.specs.declared.expr.Infix.TheVariants as infixs
use Rattle.pgo_syntax.specs.declared.assignment.Step.TheVariants as step
use Rattle.pgo_syntax.specs.declared.bound.Target.TheVariants as targets
use Rattle.pgo_base.specs.Data.{function, pairs}
use Rattle.pgo_base.specs.Tree.{truth, name, binary, cond_of, choose, set_of, index, trees, Tree, bound, quantified}
use Rattle.pgo_base.specs.declared.value.Value.TheVariants.{Int}
use Rattle.pgo_model.specs.Outcome.{Blocked, NoValue, AssertFails, Section}
use Rattle.pgo_syntax.specs.Statement.{skip, assign, await_that, with_in, assert_that}
use Rattle.pgo_syntax.specs.declared.binding.Origin.TheVariants.{Equals, In as InSet}
use Rattle.pgo_meaning.proofs.RowTools.{n, int, deep, whole, at_label, ref, stuck, leads, placed_name, assignment, with_name, archetype, binding, row_of}
use Rattle.pgo_model.specs.System.{Touched}
use Rattle.pgo_base.specs.Lookup.{Vars}
use Rattle.pgo_base.specs.declared.expr.Quantifier.TheVariants as quantifiers

-- `v := v + w`, both bound to x: a read of each, and the write
two_of_one_global : row_of [] (codes "P") (archetype (codes "A") [] (((Some (placed_name (codes "l"))), (assign 0 ((assignment (codes "v") [] (binary infixs.Add (name (codes "v")) (name (codes "w")))) ∷ []))) ∷ [])) (ref (codes "v") (codes "x") ∷ ref (codes "w") (codes "x") ∷ []) ((codes "x") ∷ []) [] (Int (pos 1)) ((codes "x", int 3) ∷ at_label (codes "P_l") ∷ []) []
    ≡ leads (whole (codes "x") ∷ whole (codes "x") ∷ whole (codes "x") ∷ []) ((codes "x", int 6) ∷ at_label (codes "Done") ∷ []) []
two_of_one_global = refl

-- `v[1] := 8 || v[2] := v[1]`: all right sides are read first, and then each path with its write
parallel_paths : row_of [] (codes "P") (archetype (codes "A") [] (((Some (placed_name (codes "l"))), (assign 0 ((assignment (codes "v") ((step.Index (n 1)) ∷ []) (n 8)) ∷ (assignment (codes "v") ((step.Index (n 2)) ∷ []) (index (name (codes "v")) (trees ((n 1) ∷ [])))) ∷ []))) ∷ [])) (ref (codes "v") (codes "x") ∷ []) ((codes "x") ∷ []) [] (Int (pos 1)) (((codes "x"), (function (pairs (((int 1), (int 1)) ∷ ((int 2), (int 2)) ∷ [])))) ∷ at_label (codes "P_l") ∷ []) []
    ≡ leads (whole (codes "x") ∷ whole (codes "x") ∷ whole (codes "x") ∷ whole (codes "x") ∷ whole (codes "x") ∷ []) (((codes "x"), (function (pairs (((int 1), (int 8)) ∷ ((int 2), (int 1)) ∷ [])))) ∷ at_label (codes "Done") ∷ []) []
parallel_paths = refl

-- `with (x = 4) { v := x + v }`, with v bound to a global x: the `with` name is no global
name_of_a_global : row_of [] (codes "P") (archetype (codes "A") [] (((Some (placed_name (codes "l"))), (with_in 0 ((with_name (codes "x") (Equals (n 4))) ∷ []) (assign 0 ((assignment (codes "v") [] (binary infixs.Add (name (codes "x")) (name (codes "v")))) ∷ [])))) ∷ [])) (ref (codes "v") (codes "x") ∷ []) ((codes "x") ∷ []) [] (Int (pos 1)) ((codes "x", int 1) ∷ at_label (codes "P_l") ∷ []) []
    ≡ leads (whole (codes "x") ∷ whole (codes "x") ∷ []) ((codes "x", int 5) ∷ at_label (codes "Done") ∷ []) []
name_of_a_global = refl

-- `v := 1; assert v = 0`: the write and the read are there
assertion_after_write : row_of [] (codes "P") (archetype (codes "A") [] (((Some (placed_name (codes "l"))), (assign 0 ((assignment (codes "v") [] (n 1)) ∷ []))) ∷ (None, (assert_that 0 (binary infixs.Equal (name (codes "v")) (n 0)))) ∷ [])) (ref (codes "v") (codes "x") ∷ []) ((codes "x") ∷ []) [] (Int (pos 1)) ((codes "x", int 0) ∷ at_label (codes "P_l") ∷ []) []
    ≡ stuck (whole (codes "x") ∷ whole (codes "x") ∷ []) AssertFails
assertion_after_write = refl

-- `await IF TRUE THEN z = 0 ELSE w = v`, z a local: the arm that is not taken is read too
arms_not_taken : row_of [] (codes "P") (archetype (codes "A") ((codes "z") ∷ []) (((Some (placed_name (codes "l"))), (await_that 0 (cond_of (truth true) (binary infixs.Equal (name (codes "z")) (n 0)) (binary infixs.Equal (name (codes "w")) (name (codes "v")))))) ∷ [])) (ref (codes "v") (codes "x") ∷ ref (codes "w") (codes "y") ∷ []) ((codes "x") ∷ (codes "y") ∷ []) [] (Int (pos 1)) ((codes "x", int 0) ∷ (codes "y", int 2) ∷ at_label (codes "P_l") ∷ ((codes "P_z"), (function (pairs (((int 1), (int 0)) ∷ [])))) ∷ []) []
    ≡ leads (whole (codes "y") ∷ whole (codes "x") ∷ []) ((codes "x", int 0) ∷ (codes "y", int 2) ∷ at_label (codes "Done") ∷ ((codes "P_z"), (function (pairs (((int 1), (int 0)) ∷ [])))) ∷ []) []
arms_not_taken = refl

-- `v := p`, p a value parameter that is handed 7: what the state has, 9, and no read of it
value_of_the_state : row_of [] (codes "P") (archetype (codes "A") [] (((Some (placed_name (codes "l"))), (assign 0 ((assignment (codes "v") [] (name (codes "p"))) ∷ []))) ∷ [])) (ref (codes "v") (codes "x") ∷ (binding (codes "p") (targets.Value (n 7))) ∷ []) ((codes "x") ∷ []) [] (Int (pos 1)) ((codes "x", int 0) ∷ at_label (codes "P_l") ∷ ((codes "P_p"), (function (pairs (((int 1), (int 9)) ∷ [])))) ∷ []) []
    ≡ leads (whole (codes "x") ∷ []) ((codes "x", int 9) ∷ at_label (codes "Done") ∷ ((codes "P_p"), (function (pairs (((int 1), (int 9)) ∷ [])))) ∷ []) []
value_of_the_state = refl

-- `v := 9223372036854775807 + 1`: no value, and so no write
overflow : row_of [] (codes "P") (archetype (codes "A") [] (((Some (placed_name (codes "l"))), (assign 0 ((assignment (codes "v") [] (binary infixs.Add (n 9223372036854775807) (n 1))) ∷ []))) ∷ [])) (ref (codes "v") (codes "x") ∷ []) ((codes "x") ∷ []) [] (Int (pos 1)) ((codes "x", int 0) ∷ at_label (codes "P_l") ∷ []) []
    ≡ stuck [] NoValue
overflow = refl

-- `await v`, `assert v`, `with (a \in v) ..` where x = 0
await_no_condition : row_of [] (codes "P") (archetype (codes "A") [] (((Some (placed_name (codes "l"))), (await_that 0 (name (codes "v")))) ∷ [])) (ref (codes "v") (codes "x") ∷ []) ((codes "x") ∷ []) [] (Int (pos 1)) ((codes "x", int 0) ∷ at_label (codes "P_l") ∷ []) []
    ≡ stuck (whole (codes "x") ∷ []) NoValue
await_no_condition = refl

assert_no_condition : row_of [] (codes "P") (archetype (codes "A") [] (((Some (placed_name (codes "l"))), (assert_that 0 (name (codes "v")))) ∷ [])) (ref (codes "v") (codes "x") ∷ []) ((codes "x") ∷ []) [] (Int (pos 1)) ((codes "x", int 0) ∷ at_label (codes "P_l") ∷ []) []
    ≡ stuck (whole (codes "x") ∷ []) NoValue
assert_no_condition = refl

no_set : row_of [] (codes "P") (archetype (codes "A") [] (((Some (placed_name (codes "l"))), (with_in 0 ((with_name (codes "a") (InSet (name (codes "v")))) ∷ []) (skip 0))) ∷ [])) (ref (codes "v") (codes "x") ∷ []) ((codes "x") ∷ []) [] (Int (pos 1)) ((codes "x", int 0) ∷ at_label (codes "P_l") ∷ []) []
    ≡ stuck (whole (codes "x") ∷ []) NoValue
no_set = refl

-- `q := {q}`, q a local: the value of a local is less deep by its function
local_too_deep : row_of [] (codes "P") (archetype (codes "A") ((codes "q") ∷ []) (((Some (placed_name (codes "l"))), (assign 0 ((assignment (codes "q") [] (set_of (trees ((name (codes "q")) ∷ [])))) ∷ []))) ∷ [])) (ref (codes "v") (codes "x") ∷ []) ((codes "x") ∷ []) [] (Int (pos 1)) ((codes "x", int 0) ∷ at_label (codes "P_l") ∷ ((codes "P_q"), (function (pairs (((int 1), (deep 254)) ∷ [])))) ∷ []) []
    ≡ stuck [] NoValue
local_too_deep = refl

-- `with (a = {v}) { v := CHOOSE z \in a : TRUE }`: a value that no state holds may be 257 deep
deep_in_between : row_of [] (codes "P") (archetype (codes "A") [] (((Some (placed_name (codes "l"))), (with_in 0 ((with_name (codes "a") (Equals (set_of (trees ((name (codes "v")) ∷ []))))) ∷ []) (assign 0 ((assignment (codes "v") [] (choose (codes "z") (name (codes "a")) (truth true))) ∷ [])))) ∷ [])) (ref (codes "v") (codes "x") ∷ []) ((codes "x") ∷ []) [] (Int (pos 1)) (((codes "x"), (deep 255)) ∷ at_label (codes "P_l") ∷ []) []
    ≡ leads (whole (codes "x") ∷ whole (codes "x") ∷ []) (((codes "x"), (deep 255)) ∷ at_label (codes "Done") ∷ []) []
deep_in_between = refl

-- `await \A z \in {} : v = z` and `await TRUE \/ v = 0`: what stands in the condition is read, also where its value isn't needed
abbrev awaits : Tree → Section Touched Vars
awaits e =
    row_of [] (codes "P") (archetype (codes "A") [] ((Some (placed_name (codes "l")), await_that 0 e) ∷ [])) (ref (codes "v") (codes "x") ∷ []) (codes "x" ∷ []) [] (Int (pos 1)) ((codes "x", int 7) ∷ at_label (codes "P_l") ∷ []) []

abbrev passes : Section Touched Vars
passes = leads (whole (codes "x") ∷ []) ((codes "x", int 7) ∷ at_label (codes "Done") ∷ []) []

under_a_binder : awaits (quantified quantifiers.Forall (bound ((codes "z" ∷ [], set_of (trees [])) ∷ [])) (binary infixs.Equal (name (codes "v")) (name (codes "z")))) ≡ passes
under_a_binder = refl

beside_true : awaits (binary infixs.Or (truth true) (binary infixs.Equal (name (codes "v")) (n 0))) ≡ passes
beside_true = refl

beside_false : awaits (binary infixs.And (truth false) (binary infixs.Equal (name (codes "v")) (n 0))) ≡ stuck (whole (codes "x") ∷ []) Blocked
beside_false = refl
