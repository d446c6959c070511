-- Sections whose macros stand in the place of their calls, worked out by hand.
use Rattle.std.specs.Prelude.{◌≡◌, pos, [], ◌∷◌, Some, None, codes, refl}
use Rattle.pgo_base.specs.declared.expr.Infix.TheVariants as infixs
use Rattle.pgo_syntax.specs.declared.archetype.Extent.TheVariants as extents
use Rattle.pgo_syntax.specs.declared.assignment.Step.TheVariants as step
use Rattle.pgo_syntax.specs.declared.bound.Target.TheVariants as targets
use Rattle.pgo_base.specs.Data.{function, pairs}
use Rattle.pgo_base.specs.Tree.{name, binary, index, trees}
use Rattle.pgo_base.specs.declared.value.Value.TheVariants.{Int}
use Rattle.pgo_syntax.specs.Statement.{assign, with_in, call_macro, yield_as, block, labeled}
use Rattle.pgo_syntax.specs.declared.binding.Origin.TheVariants.{Equals}
use Rattle.pgo_syntax.specs.declared.bound.Mapping.TheVariants.{Macro}
use Rattle.pgo_meaning.proofs.RowTools.{n, int, whole, element, at_label, ref, leads, writes_value, placed_name, assignment, with_name, archetype, macro, mapping, binding, row_of}

-- macro m2(a, b) { with (t = b + 1) { a := t + b } }
-- macro m1(a) { with (t = 10) { m2(a, t); m2(a, t + a) } }
-- `with (t = 100) { m1(v); w := t }`: three names t that are three
names_apart : row_of ((macro (codes "m2") ((codes "a") ∷ (codes "b") ∷ []) ((None, (with_in 0 ((with_name (codes "t") (Equals (binary infixs.Add (name (codes "b")) (n 1)))) ∷ []) (block 0 (labeled ((None, (assign 0 ((assignment (codes "a") [] (binary infixs.Add (name (codes "t")) (name (codes "b")))) ∷ []))) ∷ []))))) ∷ [])) ∷ (macro (codes "m1") ((codes "a") ∷ []) ((None, (with_in 0 ((with_name (codes "t") (Equals (n 10))) ∷ []) (block 0 (labeled ((None, (call_macro 0 (placed_name (codes "m2")) ((name (codes "a")) ∷ (name (codes "t")) ∷ []))) ∷ (None, (call_macro 0 (placed_name (codes "m2")) ((name (codes "a")) ∷ (binary infixs.Add (name (codes "t")) (name (codes "a"))) ∷ []))) ∷ []))))) ∷ [])) ∷ []) (codes "P") (archetype (codes "A") [] (((Some (placed_name (codes "l"))), (with_in 0 ((with_name (codes "t") (Equals (n 100))) ∷ []) (block 0 (labeled ((None, (call_macro 0 (placed_name (codes "m1")) ((name (codes "v")) ∷ []))) ∷ (None, (assign 0 ((assignment (codes "w") [] (name (codes "t"))) ∷ []))) ∷ []))))) ∷ [])) (ref (codes "v") (codes "x") ∷ ref (codes "w") (codes "y") ∷ []) ((codes "x") ∷ (codes "y") ∷ []) [] (Int (pos 1)) ((codes "x", int 0) ∷ (codes "y", int 0) ∷ at_label (codes "P_l") ∷ []) []
    ≡ leads (whole (codes "x") ∷ whole (codes "x") ∷ whole (codes "x") ∷ whole (codes "x") ∷ whole (codes "y") ∷ []) ((codes "x", int 63) ∷ (codes "y", int 100) ∷ at_label (codes "Done") ∷ []) []
names_apart = refl

-- macro dbl(a, b) { a := b + b }, called by `dbl(v, net[1])`: the argument is read at each of its places
argument_read_twice : row_of ((macro (codes "dbl") ((codes "a") ∷ (codes "b") ∷ []) ((None, (assign 0 ((assignment (codes "a") [] (binary infixs.Add (name (codes "b")) (name (codes "b")))) ∷ []))) ∷ [])) ∷ []) (codes "P") (archetype (codes "A") [] (((Some (placed_name (codes "l"))), (call_macro 0 (placed_name (codes "dbl")) ((name (codes "v")) ∷ (index (name (codes "net")) (trees ((n 1) ∷ []))) ∷ []))) ∷ [])) ((binding (codes "net") (targets.Global (codes "n") extents.Element (Some (Macro (mapping (codes "M") ((None, (assign 0 ((assignment (codes "$variable") [] (binary infixs.Add (name (codes "$variable")) (n 1))) ∷ []))) ∷ (None, (yield_as 0 (name (codes "$variable")))) ∷ []) writes_value))))) ∷ ref (codes "v") (codes "x") ∷ []) ((codes "n") ∷ (codes "x") ∷ []) [] (Int (pos 1)) (((codes "n"), (function (pairs (((int 1), (int 5)) ∷ [])))) ∷ (codes "x", int 0) ∷ at_label (codes "P_l") ∷ []) []
    ≡ leads (element (codes "n") 1 ∷ element (codes "n") 1 ∷ whole (codes "x") ∷ []) (((codes "n"), (function (pairs (((int 1), (int 7)) ∷ [])))) ∷ (codes "x", int 13) ∷ at_label (codes "Done") ∷ []) []
argument_read_twice = refl

-- macro mm(a) { with (t = 2) a[t] := a[t] + 1 }, called by `mm(v[1])`: the path of the argument comes first
argument_path_first : row_of ((macro (codes "mm") ((codes "a") ∷ []) ((None, (with_in 0 ((with_name (codes "t") (Equals (n 2))) ∷ []) (assign 0 ((assignment (codes "a") ((step.Index (name (codes "t"))) ∷ []) (binary infixs.Add (index (name (codes "a")) (trees ((name (codes "t")) ∷ []))) (n 1))) ∷ [])))) ∷ [])) ∷ []) (codes "P") (archetype (codes "A") [] (((Some (placed_name (codes "l"))), (call_macro 0 (placed_name (codes "mm")) ((index (name (codes "v")) (trees ((n 1) ∷ []))) ∷ []))) ∷ [])) (ref (codes "v") (codes "x") ∷ []) ((codes "x") ∷ []) [] (Int (pos 1)) (((codes "x"), (function (pairs (((int 1), (function (pairs (((int 1), (int 3)) ∷ ((int 2), (int 4)) ∷ [])))) ∷ [])))) ∷ at_label (codes "P_l") ∷ []) []
    ≡ leads (whole (codes "x") ∷ whole (codes "x") ∷ whole (codes "x") ∷ []) (((codes "x"), (function (pairs (((int 1), (function (pairs (((int 1), (int 3)) ∷ ((int 2), (int 5)) ∷ [])))) ∷ [])))) ∷ at_label (codes "Done") ∷ []) []
argument_path_first = refl
