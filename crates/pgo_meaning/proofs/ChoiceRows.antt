-- Choices in sections, worked out by hand: which word is taken, and for what.
use Rattle.std.specs.Prelude.{◌≡◌, pos, [], ◌∷◌, Some, None, codes, refl}
use Rattle.pgo_base.specs.declared.expr.Infix.TheVariants as infixs
use Rattle.pgo_syntax.specs.declared.archetype.Extent.TheVariants as extents
use Rattle.pgo_syntax.specs.declared.assignment.Step.TheVariants as step
use Rattle.pgo_syntax.specs.declared.bound.Target.TheVariants as targets
use Rattle.pgo_base.specs.Data.{function, pairs}
use Rattle.pgo_base.specs.Tree.{name, binary, set_of, index, trees}
use Rattle.pgo_base.specs.declared.value.Value.TheVariants.{Int}
use Rattle.pgo_syntax.specs.Statement.{skip, assign, either_of, with_in, go_to, yield_as, block, statements, labeled}
use Rattle.pgo_syntax.specs.declared.binding.Origin.TheVariants.{Equals, In as InSet}
use Rattle.pgo_syntax.specs.declared.bound.Mapping.TheVariants.{Macro}
use Rattle.pgo_meaning.proofs.RowTools.{n, int, whole, element, at_label, ref, leads, writes_value, placed_name, assignment, with_name, archetype, mapping, binding, row_of}

-- `either` of three arms, with the word 5: the third, by the rest of 5 by 3
word_past_the_arms : row_of [] (codes "P") (archetype (codes "A") [] (((Some (placed_name (codes "l"))), (either_of 0 (statements ((assign 0 ((assignment (codes "v") [] (n 1)) ∷ [])) ∷ (assign 0 ((assignment (codes "v") [] (n 2)) ∷ [])) ∷ (assign 0 ((assignment (codes "v") [] (n 3)) ∷ [])) ∷ [])))) ∷ [])) (ref (codes "v") (codes "x") ∷ []) ((codes "x") ∷ []) [] (Int (pos 1)) ((codes "x", int 0) ∷ at_label (codes "P_l") ∷ []) (5 ∷ [])
    ≡ leads (whole (codes "x") ∷ []) ((codes "x", int 3) ∷ at_label (codes "Done") ∷ []) []
word_past_the_arms = refl

-- `with (a \in net[1]) { v := a }`, where the macro chooses what it yields: its word is the first
macro_takes_the_first : row_of [] (codes "P") (archetype (codes "A") [] (((Some (placed_name (codes "l"))), (with_in 0 ((with_name (codes "a") (InSet (index (name (codes "net")) (trees ((n 1) ∷ []))))) ∷ []) (assign 0 ((assignment (codes "v") [] (name (codes "a"))) ∷ [])))) ∷ [])) ((binding (codes "net") (targets.Global (codes "n") extents.Element (Some (Macro (mapping (codes "M") ((None, (either_of 0 (statements ((block 0 (labeled ((None, (yield_as 0 (set_of (trees ((n 1) ∷ (n 2) ∷ []))))) ∷ []))) ∷ (block 0 (labeled ((None, (yield_as 0 (set_of (trees ((n 3) ∷ (n 4) ∷ []))))) ∷ []))) ∷ [])))) ∷ []) writes_value))))) ∷ ref (codes "v") (codes "x") ∷ []) ((codes "n") ∷ (codes "x") ∷ []) [] (Int (pos 1)) (((codes "n"), (function (pairs (((int 1), (int 5)) ∷ [])))) ∷ (codes "x", int 0) ∷ at_label (codes "P_l") ∷ []) (1 ∷ 0 ∷ [])
    ≡ leads (element (codes "n") 1 ∷ whole (codes "x") ∷ []) (((codes "n"), (function (pairs (((int 1), (int 5)) ∷ [])))) ∷ (codes "x", int 3) ∷ at_label (codes "Done") ∷ []) []
macro_takes_the_first = refl

-- `with (a \in {4, 7}; b = a; c \in {1, 2, 3}) { v := b + c }`, with the words 3 and 4
names_in_order : row_of [] (codes "P") (archetype (codes "A") [] (((Some (placed_name (codes "l"))), (with_in 0 ((with_name (codes "a") (InSet (set_of (trees ((n 4) ∷ (n 7) ∷ []))))) ∷ (with_name (codes "b") (Equals (name (codes "a")))) ∷ (with_name (codes "c") (InSet (set_of (trees ((n 1) ∷ (n 2) ∷ (n 3) ∷ []))))) ∷ []) (assign 0 ((assignment (codes "v") [] (binary infixs.Add (name (codes "b")) (name (codes "c")))) ∷ [])))) ∷ [])) (ref (codes "v") (codes "x") ∷ []) ((codes "x") ∷ []) [] (Int (pos 1)) ((codes "x", int 0) ∷ at_label (codes "P_l") ∷ []) (3 ∷ 4 ∷ [])
    ≡ leads (whole (codes "x") ∷ []) ((codes "x", int 9) ∷ at_label (codes "Done") ∷ []) []
names_in_order = refl

-- `either { v := q; goto m } or { skip }`, where the macro assigns `$variable` by two paths at once
jump_out_of_an_arm : row_of [] (codes "P") (archetype (codes "A") [] (((Some (placed_name (codes "l"))), (either_of 0 (statements ((block 0 (labeled ((None, (assign 0 ((assignment (codes "v") [] (name (codes "q"))) ∷ []))) ∷ (None, (go_to 0 (placed_name (codes "m")))) ∷ []))) ∷ (block 0 (labeled ((None, (skip 0)) ∷ []))) ∷ [])))) ∷ ((Some (placed_name (codes "k"))), (assign 0 ((assignment (codes "v") [] (n 1)) ∷ []))) ∷ ((Some (placed_name (codes "m"))), (skip 0)) ∷ [])) ((binding (codes "q") (targets.Global (codes "y") extents.Whole (Some (Macro (mapping (codes "M") ((None, (assign 0 ((assignment (codes "$variable") ((step.Index (n 1)) ∷ []) (n 9)) ∷ (assignment (codes "$variable") ((step.Index (n 2)) ∷ []) (index (name (codes "$variable")) (trees ((n 1) ∷ [])))) ∷ []))) ∷ (None, (yield_as 0 (index (name (codes "$variable")) (trees ((n 2) ∷ []))))) ∷ []) writes_value))))) ∷ ref (codes "v") (codes "x") ∷ []) ((codes "y") ∷ (codes "x") ∷ []) [] (Int (pos 1)) (((codes "y"), (function (pairs (((int 1), (int 4)) ∷ ((int 2), (int 5)) ∷ [])))) ∷ (codes "x", int 0) ∷ at_label (codes "P_l") ∷ []) (0 ∷ [])
    ≡ leads (whole (codes "y") ∷ whole (codes "x") ∷ []) (((codes "y"), (function (pairs (((int 1), (int 9)) ∷ ((int 2), (int 4)) ∷ [])))) ∷ (codes "x", int 4) ∷ at_label (codes "P_m") ∷ []) []
jump_out_of_an_arm = refl
