-- What sections do through mapping macros, worked out by hand.
use Rattle.std.specs.Prelude.{◌≡◌, ℕ, List, false, pos, [], ◌∷◌, Some, None, codes, refl}
use Rattle.pgo_base.specs.declared.expr.Infix.TheVariants as infixs
use Rattle.pgo_syntax.specs.declared.archetype.Extent.TheVariants as extents
use Rattle.pgo_syntax.specs.declared.assignment.Step.TheVariants as step
use Rattle.pgo_syntax.specs.declared.bound.Target.TheVariants as targets
use Rattle.pgo_base.specs.Data.{function, pairs}
use Rattle.pgo_base.specs.Lookup.{Vars}
use Rattle.pgo_base.specs.Tree.{truth, name, binary, set_of, index, call, trees}
use Rattle.pgo_base.specs.declared.value.Value.TheVariants.{Int}
use Rattle.pgo_model.specs.Outcome.{Blocked, NoValue, AssertFails, Section}
use Rattle.pgo_model.specs.System.{Touched}
use Rattle.pgo_syntax.specs.Statement.{assign, while_do, await_that, with_in, print_out, assert_that, yield_as, block, labeled}
use Rattle.pgo_syntax.specs.declared.binding.Origin.TheVariants.{Equals, In as InSet}
use Rattle.pgo_syntax.specs.declared.bound.Mapping.TheVariants.{Identity, Macro}
use Rattle.pgo_meaning.proofs.RowTools.{n, int, whole, element, at_label, ref, stuck, leads, writes_value, placed_name, assignment, with_name, archetype, mapping, binding, row_of}

-- `net[1] := net[2]`, by the identity: the read, and the write
identity_copied : row_of [] (codes "P") (archetype (codes "A") [] (((Some (placed_name (codes "l"))), (assign 0 ((assignment (codes "net") ((step.Index (n 1)) ∷ []) (index (name (codes "net")) (trees ((n 2) ∷ [])))) ∷ []))) ∷ [])) ((binding (codes "net") (targets.Global (codes "n") extents.Element (Some Identity))) ∷ []) ((codes "n") ∷ []) [] (Int (pos 1)) (((codes "n"), (function (pairs (((int 1), (int 5)) ∷ ((int 2), (int 6)) ∷ [])))) ∷ at_label (codes "P_l") ∷ []) []
    ≡ leads (element (codes "n") 2 ∷ element (codes "n") 1 ∷ []) (((codes "n"), (function (pairs (((int 1), (int 6)) ∷ ((int 2), (int 6)) ∷ [])))) ∷ at_label (codes "Done") ∷ []) []
identity_copied = refl

-- `net[1] := net[9]`, where another parameter, m, is bound to n as a whole: the index has no element, and n was read
outside_of_whole : row_of [] (codes "P") (archetype (codes "A") [] (((Some (placed_name (codes "l"))), (assign 0 ((assignment (codes "net") ((step.Index (n 1)) ∷ []) (index (name (codes "net")) (trees ((n 9) ∷ [])))) ∷ []))) ∷ [])) ((binding (codes "net") (targets.Global (codes "n") extents.Element (Some Identity))) ∷ ref (codes "m") (codes "n") ∷ []) ((codes "n") ∷ []) [] (Int (pos 1)) (((codes "n"), (function (pairs (((int 1), (int 5)) ∷ ((int 2), (int 6)) ∷ [])))) ∷ at_label (codes "P_l") ∷ []) []
    ≡ stuck (whole (codes "n") ∷ []) NoValue
outside_of_whole = refl

-- `net[9] := net[2]`, by element: no element, and no write
write_outside : row_of [] (codes "P") (archetype (codes "A") [] (((Some (placed_name (codes "l"))), (assign 0 ((assignment (codes "net") ((step.Index (n 9)) ∷ []) (index (name (codes "net")) (trees ((n 2) ∷ [])))) ∷ []))) ∷ [])) ((binding (codes "net") (targets.Global (codes "n") extents.Element (Some Identity))) ∷ []) ((codes "n") ∷ []) [] (Int (pos 1)) (((codes "n"), (function (pairs (((int 1), (int 5)) ∷ ((int 2), (int 6)) ∷ [])))) ∷ at_label (codes "P_l") ∷ []) []
    ≡ stuck (element (codes "n") 2 ∷ []) NoValue
write_outside = refl

-- `v := net[1]` with `read { assert FALSE; .. }`
assertion_inside : row_of [] (codes "P") (archetype (codes "A") [] (((Some (placed_name (codes "l"))), (assign 0 ((assignment (codes "v") [] (index (name (codes "net")) (trees ((n 1) ∷ [])))) ∷ []))) ∷ [])) ((binding (codes "net") (targets.Global (codes "n") extents.Element (Some (Macro (mapping (codes "M") ((None, (assert_that 0 (truth false))) ∷ (None, (yield_as 0 (name (codes "$variable")))) ∷ []) writes_value))))) ∷ ref (codes "v") (codes "x") ∷ []) ((codes "n") ∷ (codes "x") ∷ []) [] (Int (pos 1)) (((codes "n"), (function (pairs (((int 1), (int 5)) ∷ [])))) ∷ (codes "x", int 0) ∷ at_label (codes "P_l") ∷ []) []
    ≡ stuck (element (codes "n") 1 ∷ []) AssertFails
assertion_inside = refl

-- `v := net[1] + net[1]` with `read { $variable := $variable + 1; yield $variable }`: the second read is of what the first left
read_assigns : row_of [] (codes "P") (archetype (codes "A") [] (((Some (placed_name (codes "l"))), (assign 0 ((assignment (codes "v") [] (binary infixs.Add (index (name (codes "net")) (trees ((n 1) ∷ []))) (index (name (codes "net")) (trees ((n 1) ∷ []))))) ∷ []))) ∷ [])) ((binding (codes "net") (targets.Global (codes "n") extents.Element (Some (Macro (mapping (codes "M") ((None, (assign 0 ((assignment (codes "$variable") [] (binary infixs.Add (name (codes "$variable")) (n 1))) ∷ []))) ∷ (None, (yield_as 0 (name (codes "$variable")))) ∷ []) writes_value))))) ∷ ref (codes "v") (codes "x") ∷ []) ((codes "n") ∷ (codes "x") ∷ []) [] (Int (pos 1)) (((codes "n"), (function (pairs (((int 1), (int 5)) ∷ [])))) ∷ (codes "x", int 0) ∷ at_label (codes "P_l") ∷ []) []
    ≡ leads (element (codes "n") 1 ∷ element (codes "n") 1 ∷ whole (codes "x") ∷ []) (((codes "n"), (function (pairs (((int 1), (int 7)) ∷ [])))) ∷ (codes "x", int 13) ∷ at_label (codes "Done") ∷ []) []
read_assigns = refl

-- `v := w || w := net[1] || net[1] := v`: reads in textual order, and then writes from left to right
mixed_parallel : row_of [] (codes "P") (archetype (codes "A") [] (((Some (placed_name (codes "l"))), (assign 0 ((assignment (codes "v") [] (name (codes "w"))) ∷ (assignment (codes "w") [] (index (name (codes "net")) (trees ((n 1) ∷ [])))) ∷ (assignment (codes "net") ((step.Index (n 1)) ∷ []) (name (codes "v"))) ∷ []))) ∷ [])) (ref (codes "v") (codes "x") ∷ ref (codes "w") (codes "y") ∷ (binding (codes "net") (targets.Global (codes "n") extents.Element (Some Identity))) ∷ []) ((codes "x") ∷ (codes "y") ∷ (codes "n") ∷ []) [] (Int (pos 1)) ((codes "x", int 1) ∷ (codes "y", int 2) ∷ ((codes "n"), (function (pairs (((int 1), (int 3)) ∷ [])))) ∷ at_label (codes "P_l") ∷ []) []
    ≡ leads (whole (codes "y") ∷ element (codes "n") 1 ∷ whole (codes "x") ∷ whole (codes "x") ∷ whole (codes "y") ∷ element (codes "n") 1 ∷ []) ((codes "x", int 2) ∷ (codes "y", int 3) ∷ ((codes "n"), (function (pairs (((int 1), (int 1)) ∷ [])))) ∷ at_label (codes "Done") ∷ []) []
mixed_parallel = refl

-- `v := net[net[1]]`: the inner read first
read_in_an_index : row_of [] (codes "P") (archetype (codes "A") [] (((Some (placed_name (codes "l"))), (assign 0 ((assignment (codes "v") [] (index (name (codes "net")) (trees ((index (name (codes "net")) (trees ((n 1) ∷ []))) ∷ [])))) ∷ []))) ∷ [])) ((binding (codes "net") (targets.Global (codes "n") extents.Element (Some Identity))) ∷ ref (codes "v") (codes "x") ∷ []) ((codes "n") ∷ (codes "x") ∷ []) [] (Int (pos 1)) (((codes "n"), (function (pairs (((int 1), (int 2)) ∷ ((int 2), (int 8)) ∷ [])))) ∷ (codes "x", int 0) ∷ at_label (codes "P_l") ∷ []) []
    ≡ leads (element (codes "n") 1 ∷ element (codes "n") 2 ∷ whole (codes "x") ∷ []) (((codes "n"), (function (pairs (((int 1), (int 2)) ∷ ((int 2), (int 8)) ∷ [])))) ∷ (codes "x", int 8) ∷ at_label (codes "Done") ∷ []) []
read_in_an_index = refl

-- `v := net[w] + w`: w is read for the index, and once more for what is left of the expression
index_before_rest : row_of [] (codes "P") (archetype (codes "A") [] (((Some (placed_name (codes "l"))), (assign 0 ((assignment (codes "v") [] (binary infixs.Add (index (name (codes "net")) (trees ((name (codes "w")) ∷ []))) (name (codes "w")))) ∷ []))) ∷ [])) ((binding (codes "net") (targets.Global (codes "n") extents.Element (Some Identity))) ∷ ref (codes "v") (codes "x") ∷ ref (codes "w") (codes "y") ∷ []) ((codes "n") ∷ (codes "x") ∷ (codes "y") ∷ []) [] (Int (pos 1)) (((codes "n"), (function (pairs (((int 1), (int 2)) ∷ ((int 2), (int 8)) ∷ [])))) ∷ (codes "x", int 0) ∷ (codes "y", int 2) ∷ at_label (codes "P_l") ∷ []) []
    ≡ leads (whole (codes "y") ∷ element (codes "n") 2 ∷ whole (codes "y") ∷ whole (codes "x") ∷ []) (((codes "n"), (function (pairs (((int 1), (int 2)) ∷ ((int 2), (int 8)) ∷ [])))) ∷ (codes "x", int 10) ∷ (codes "y", int 2) ∷ at_label (codes "Done") ∷ []) []
index_before_rest = refl

-- `v := q`, q a channel as a whole
whole_read_pops : row_of [] (codes "P") (archetype (codes "A") [] (((Some (placed_name (codes "l"))), (assign 0 ((assignment (codes "v") [] (name (codes "q"))) ∷ []))) ∷ [])) ((binding (codes "q") (targets.Global (codes "y") extents.Whole (Some (Macro (mapping (codes "M") ((None, (await_that 0 (binary infixs.Greater (call (codes "Len") (trees ((name (codes "$variable")) ∷ []))) (n 0)))) ∷ (None, (with_in 0 ((with_name (codes "msg") (Equals (call (codes "Head") (trees ((name (codes "$variable")) ∷ []))))) ∷ []) (block 0 (labeled ((None, (assign 0 ((assignment (codes "$variable") [] (call (codes "Tail") (trees ((name (codes "$variable")) ∷ [])))) ∷ []))) ∷ (None, (yield_as 0 (name (codes "msg")))) ∷ []))))) ∷ []) writes_value))))) ∷ ref (codes "v") (codes "x") ∷ []) ((codes "y") ∷ (codes "x") ∷ []) [] (Int (pos 1)) (((codes "y"), (function (pairs (((int 1), (int 4)) ∷ [])))) ∷ (codes "x", int 0) ∷ at_label (codes "P_l") ∷ []) []
    ≡ leads (whole (codes "y") ∷ whole (codes "x") ∷ []) (((codes "y"), (function (pairs []))) ∷ (codes "x", int 4) ∷ at_label (codes "Done") ∷ []) []
whole_read_pops = refl

-- `v := q + q`, where the channel has one message
second_pop_of_whole : row_of [] (codes "P") (archetype (codes "A") [] (((Some (placed_name (codes "l"))), (assign 0 ((assignment (codes "v") [] (binary infixs.Add (name (codes "q")) (name (codes "q")))) ∷ []))) ∷ [])) ((binding (codes "q") (targets.Global (codes "y") extents.Whole (Some (Macro (mapping (codes "M") ((None, (await_that 0 (binary infixs.Greater (call (codes "Len") (trees ((name (codes "$variable")) ∷ []))) (n 0)))) ∷ (None, (with_in 0 ((with_name (codes "msg") (Equals (call (codes "Head") (trees ((name (codes "$variable")) ∷ []))))) ∷ []) (block 0 (labeled ((None, (assign 0 ((assignment (codes "$variable") [] (call (codes "Tail") (trees ((name (codes "$variable")) ∷ [])))) ∷ []))) ∷ (None, (yield_as 0 (name (codes "msg")))) ∷ []))))) ∷ []) writes_value))))) ∷ ref (codes "v") (codes "x") ∷ []) ((codes "y") ∷ (codes "x") ∷ []) [] (Int (pos 1)) (((codes "y"), (function (pairs (((int 1), (int 4)) ∷ [])))) ∷ (codes "x", int 0) ∷ at_label (codes "P_l") ∷ []) []
    ≡ stuck (whole (codes "y") ∷ whole (codes "y") ∷ []) Blocked
second_pop_of_whole = refl

-- `net[1] := v` with `write { await $value < 0; .. }`
write_blocked : row_of [] (codes "P") (archetype (codes "A") [] (((Some (placed_name (codes "l"))), (assign 0 ((assignment (codes "net") ((step.Index (n 1)) ∷ []) (name (codes "v"))) ∷ []))) ∷ [])) ((binding (codes "net") (targets.Global (codes "n") extents.Element (Some (Macro (mapping (codes "M") ((None, (yield_as 0 (name (codes "$variable")))) ∷ []) ((None, (await_that 0 (binary infixs.Less (name (codes "$value")) (n 0)))) ∷ (None, (yield_as 0 (name (codes "$value")))) ∷ [])))))) ∷ ref (codes "v") (codes "x") ∷ []) ((codes "n") ∷ (codes "x") ∷ []) [] (Int (pos 1)) (((codes "n"), (function (pairs (((int 1), (int 5)) ∷ [])))) ∷ (codes "x", int 3) ∷ at_label (codes "P_l") ∷ []) []
    ≡ stuck (whole (codes "x") ∷ element (codes "n") 1 ∷ []) Blocked
write_blocked = refl

-- `v := net[77]`, where 77 is in the domain
any_index : row_of [] (codes "P") (archetype (codes "A") [] (((Some (placed_name (codes "l"))), (assign 0 ((assignment (codes "v") [] (index (name (codes "net")) (trees ((n 77) ∷ [])))) ∷ []))) ∷ [])) ((binding (codes "net") (targets.Global (codes "n") extents.Element (Some Identity))) ∷ ref (codes "v") (codes "x") ∷ []) ((codes "n") ∷ (codes "x") ∷ []) [] (Int (pos 1)) (((codes "n"), (function (pairs (((int 77), (int 6)) ∷ [])))) ∷ (codes "x", int 3) ∷ at_label (codes "P_l") ∷ []) []
    ≡ leads (element (codes "n") 77 ∷ whole (codes "x") ∷ []) (((codes "n"), (function (pairs (((int 77), (int 6)) ∷ [])))) ∷ (codes "x", int 6) ∷ at_label (codes "Done") ∷ []) []
any_index = refl

-- `l: while (net[1] > 0) { v := 4 }; print v`: one read for the condition, and no print before the end
loop_by_mapped_read : row_of [] (codes "P") (archetype (codes "A") [] (((Some (placed_name (codes "l"))), (while_do 0 (binary infixs.Greater (index (name (codes "net")) (trees ((n 1) ∷ []))) (n 0)) (block 0 (labeled ((None, (assign 0 ((assignment (codes "v") [] (n 4)) ∷ []))) ∷ []))))) ∷ (None, (print_out 0 (name (codes "v")))) ∷ [])) ((binding (codes "net") (targets.Global (codes "n") extents.Element (Some Identity))) ∷ ref (codes "v") (codes "x") ∷ []) ((codes "n") ∷ (codes "x") ∷ []) [] (Int (pos 1)) (((codes "n"), (function (pairs (((int 1), (int 2)) ∷ [])))) ∷ (codes "x", int 0) ∷ at_label (codes "P_l") ∷ []) []
    ≡ leads (element (codes "n") 1 ∷ whole (codes "x") ∷ []) (((codes "n"), (function (pairs (((int 1), (int 2)) ∷ [])))) ∷ (codes "x", int 4) ∷ at_label (codes "P_l") ∷ []) []
loop_by_mapped_read = refl

-- `v := net[1] + net[1]` with
-- `read { with (e \in {1, 2}) { $variable := e; await e > 1; yield $variable } }`: each read takes a word of choice
abbrev chosen_twice : Vars → List ℕ → Section Touched Vars
chosen_twice s ws =
    row_of [] (codes "P") (archetype (codes "A") [] (((Some (placed_name (codes "l"))), (assign 0 ((assignment (codes "v") [] (binary infixs.Add (index (name (codes "net")) (trees ((n 1) ∷ []))) (index (name (codes "net")) (trees ((n 1) ∷ []))))) ∷ []))) ∷ [])) ((binding (codes "net") (targets.Global (codes "n") extents.Element (Some (Macro (mapping (codes "M") ((None, (with_in 0 ((with_name (codes "e") (InSet (set_of (trees ((n 1) ∷ (n 2) ∷ []))))) ∷ []) (block 0 (labeled ((None, (assign 0 ((assignment (codes "$variable") [] (name (codes "e"))) ∷ []))) ∷ (None, (await_that 0 (binary infixs.Greater (name (codes "e")) (n 1)))) ∷ (None, (yield_as 0 (name (codes "$variable")))) ∷ []))))) ∷ []) writes_value))))) ∷ ref (codes "v") (codes "x") ∷ []) ((codes "n") ∷ (codes "x") ∷ []) [] (Int (pos 1)) s ws

second_choice_blocked : chosen_twice (((codes "n"), (function (pairs (((int 1), (int 5)) ∷ [])))) ∷ (codes "x", int 0) ∷ at_label (codes "P_l") ∷ []) (1 ∷ 0 ∷ [])
    ≡ stuck (element (codes "n") 1 ∷ element (codes "n") 1 ∷ []) Blocked
second_choice_blocked = refl

both_choices_pass : chosen_twice (((codes "n"), (function (pairs (((int 1), (int 5)) ∷ [])))) ∷ (codes "x", int 0) ∷ at_label (codes "P_l") ∷ []) (1 ∷ 3 ∷ [])
    ≡ leads (element (codes "n") 1 ∷ element (codes "n") 1 ∷ whole (codes "x") ∷ []) (((codes "n"), (function (pairs (((int 1), (int 2)) ∷ [])))) ∷ (codes "x", int 4) ∷ at_label (codes "Done") ∷ []) []
both_choices_pass = refl
