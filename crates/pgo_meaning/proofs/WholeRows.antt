-- A whole specification, worked out by hand: two processes, mapping macros by a global and by a parameter, a constant, a value
-- parameter that is not what it was handed, and a local. What its sections do, which steps are allowed, its trees, its system.
--   archetype A(ref net[_], ref bl[_], ref v, p, ref z[_]) variables q = 5; { l: v := net[self] + bl[self] + p + q || z[1] := K }
--   archetype B(ref y) { l: skip }
--   variables n = <<<<3, 4>>, <<3, 4>>>>, x = 0, y = <<0>>;
--   process (P \in {1, 2}) == instance A(ref n[_], ref n[_], ref x, self + 10, ref y[_]) mapping n[_] via Pop mapping @2[_] via QLen
--   process (Q = 3) == instance B(ref y)
use Rattle.std.specs.Prelude.{◌≡◌, map, [], ◌∷◌, Some, None, option_map, codes, refl}
use Rattle.pgo_base.specs.declared.expr.Infix.TheVariants as infixs
use Rattle.pgo_syntax.specs.declared.archetype.Extent.TheVariants as extents
use Rattle.pgo_syntax.specs.declared.assignment.Step.TheVariants as step
use Rattle.pgo_syntax.specs.declared.archetype.ParameterKind.TheVariants as kinds
use Rattle.pgo_syntax.specs.declared.process.Argument.TheVariants as arguments
use Rattle.pgo_syntax.specs.declared.process.MappingTarget.TheVariants as clauses
use Rattle.pgo_base.specs.Data.{string, function, pairs}
use Rattle.pgo_base.specs.Lookup.{Vars, find}
use Rattle.pgo_base.specs.Tree.{name, binary, tuple, set_of, index, call, except, trees, paths}
use Rattle.pgo_model.specs.Outcome.{Nowhere}
use Rattle.pgo_syntax.specs.Statement.{skip, assign, await_that, with_in, yield_as, block, labeled}
use Rattle.pgo_syntax.specs.declared.binding.Origin.TheVariants.{Equals, In as InSet}
use Rattle.pgo_meaning.proofs.RowTools.{without_skips, n, int, whole, element, leads, writes_value, placed_name, assignment, with_name, mapping}
use Rattle.pgo_model.specs.Written.{made}
use Rattle.pgo_sections.specs.Expansion.{With, Skip, Await, End}
use Rattle.pgo_meaning.specs.Expansions.{trees_of}
use Rattle.pgo_meaning.specs.Sect.{Sect, Allows}
use Rattle.pgo_meaning.specs.System.{system_of}
use Rattle.pgo_model.specs.Choice.{word_at}
use Rattle.pgo_syntax.specs.declared.spec.Spec.{Spec}
use Rattle.pgo_syntax.specs.declared.bound.Bound.{Bound}
use Rattle.pgo_bound.specs.BoundOf.{bound_of}

abbrev spec : Spec
spec = record {
  name = (placed_name (codes "S"));
  extends = [];
  constants = ((placed_name (codes "K")) ∷ []);
  definitions = [];
  algorithm = (placed_name (codes "S"));
  define = None;
  macros = [];
  mappings = ((mapping (codes "Pop") ((None, (await_that 0 (binary infixs.Greater (call (codes "Len") (trees ((name (codes "$variable")) ∷ []))) (n 0)))) ∷ (None, (with_in 0 ((with_name (codes "msg") (Equals (call (codes "Head") (trees ((name (codes "$variable")) ∷ []))))) ∷ []) (block 0 (labeled ((None, (assign 0 ((assignment (codes "$variable") [] (call (codes "Tail") (trees ((name (codes "$variable")) ∷ [])))) ∷ []))) ∷ (None, (yield_as 0 (name (codes "msg")))) ∷ []))))) ∷ []) writes_value) ∷ (mapping (codes "QLen") ((None, (yield_as 0 (call (codes "Len") (trees ((name (codes "$variable")) ∷ []))))) ∷ []) ((None, (yield_as 0 (name (codes "$variable")))) ∷ [])) ∷ []);
  archetypes = ((record { name = (placed_name (codes "A")); params = ((record { name = (placed_name (codes "net")); kind = (kinds.Ref extents.Element) }) ∷ (record { name = (placed_name (codes "bl")); kind = (kinds.Ref extents.Element) }) ∷ (record { name = (placed_name (codes "v")); kind = (kinds.Ref extents.Whole) }) ∷ (record { name = (placed_name (codes "p")); kind = kinds.Value }) ∷ (record { name = (placed_name (codes "z")); kind = (kinds.Ref extents.Element) }) ∷ []); locals = ((record { name = (placed_name (codes "q")); initial = (Some (Equals (n 5))) }) ∷ []); body = (((Some (placed_name (codes "l"))), (assign 0 ((assignment (codes "v") [] (binary infixs.Add (binary infixs.Add (binary infixs.Add (index (name (codes "net")) (trees ((name (codes "self")) ∷ []))) (index (name (codes "bl")) (trees ((name (codes "self")) ∷ [])))) (name (codes "p"))) (name (codes "q")))) ∷ (assignment (codes "z") ((step.Index (n 1)) ∷ []) (name (codes "K"))) ∷ []))) ∷ []) }) ∷ (record { name = (placed_name (codes "B")); params = ((record { name = (placed_name (codes "y")); kind = (kinds.Ref extents.Whole) }) ∷ []); locals = []; body = (((Some (placed_name (codes "l"))), (skip 0)) ∷ []) }) ∷ []);
  globals = ((record { name = (placed_name (codes "n")); initial = (Some (Equals (tuple (trees ((tuple (trees ((n 3) ∷ (n 4) ∷ []))) ∷ (tuple (trees ((n 3) ∷ (n 4) ∷ []))) ∷ []))))) }) ∷ (record { name = (placed_name (codes "x")); initial = (Some (Equals (n 0))) }) ∷ (record { name = (placed_name (codes "y")); initial = (Some (Equals (tuple (trees ((n 0) ∷ []))))) }) ∷ []);
  processes = ((record { name = (placed_name (codes "P")); ids = (InSet (set_of (trees ((n 1) ∷ (n 2) ∷ [])))); archetype = (placed_name (codes "A")); arguments = ((arguments.Ref (placed_name (codes "n")) extents.Element) ∷ (arguments.Ref (placed_name (codes "n")) extents.Element) ∷ (arguments.Ref (placed_name (codes "x")) extents.Whole) ∷ (arguments.Value 0 (binary infixs.Add (name (codes "self")) (n 10))) ∷ (arguments.Ref (placed_name (codes "y")) extents.Element) ∷ []); clauses = ((record { target = clauses.Global (placed_name (codes "n")) extents.Element; mapping = (placed_name (codes "Pop")) }) ∷ (record { target = clauses.Argument 0 2 extents.Element; mapping = (placed_name (codes "QLen")) }) ∷ []) }) ∷ (record { name = (placed_name (codes "Q")); ids = (Equals (n 3)); archetype = (placed_name (codes "B")); arguments = ((arguments.Ref (placed_name (codes "y")) extents.Whole) ∷ []); clauses = [] }) ∷ []);
}

abbrev system : Bound
system = bound_of spec ((codes "K", int 42) ∷ [])

-- a state in which the instance 2 has p = 99, and not what it was handed
abbrev start : Vars
start =
    ((codes "n"), (function (pairs (((int 1), (function (pairs (((int 1), (int 3)) ∷ ((int 2), (int 4)) ∷ [])))) ∷ ((int 2), (function (pairs (((int 1), (int 3)) ∷ ((int 2), (int 4)) ∷ [])))) ∷ []))))
    ∷ (codes "x", int 0)
    ∷ ((codes "y"), (function (pairs (((int 1), (int 0)) ∷ []))))
    ∷ ((codes "pc"), (function (pairs (((int 1), (string (codes "P_l"))) ∷ ((int 2), (string (codes "P_l"))) ∷ ((int 3), (string (codes "Q_l"))) ∷ []))))
    ∷ ((codes "P_p"), (function (pairs (((int 1), (int 11)) ∷ ((int 2), (int 99)) ∷ []))))
    ∷ ((codes "P_q"), (function (pairs (((int 1), (int 5)) ∷ ((int 2), (int 5)) ∷ [])))) ∷ []

-- what the instance 2 makes of it, and the instance 3
abbrev after_2 : Vars
after_2 =
    ((codes "n"), (function (pairs (((int 1), (function (pairs (((int 1), (int 3)) ∷ ((int 2), (int 4)) ∷ [])))) ∷ ((int 2), (function (pairs (((int 1), (int 4)) ∷ [])))) ∷ []))))
    ∷ (codes "x", int 108)
    ∷ ((codes "y"), (function (pairs (((int 1), (int 42)) ∷ []))))
    ∷ ((codes "pc"), (function (pairs (((int 1), (string (codes "P_l"))) ∷ ((int 2), (string (codes "Done"))) ∷ ((int 3), (string (codes "Q_l"))) ∷ []))))
    ∷ ((codes "P_p"), (function (pairs (((int 1), (int 11)) ∷ ((int 2), (int 99)) ∷ []))))
    ∷ ((codes "P_q"), (function (pairs (((int 1), (int 5)) ∷ ((int 2), (int 5)) ∷ [])))) ∷ []

abbrev after_3 : Vars
after_3 =
    ((codes "n"), (function (pairs (((int 1), (function (pairs (((int 1), (int 3)) ∷ ((int 2), (int 4)) ∷ [])))) ∷ ((int 2), (function (pairs (((int 1), (int 3)) ∷ ((int 2), (int 4)) ∷ [])))) ∷ []))))
    ∷ (codes "x", int 0)
    ∷ ((codes "y"), (function (pairs (((int 1), (int 0)) ∷ []))))
    ∷ ((codes "pc"), (function (pairs (((int 1), (string (codes "P_l"))) ∷ ((int 2), (string (codes "P_l"))) ∷ ((int 3), (string (codes "Done"))) ∷ []))))
    ∷ ((codes "P_p"), (function (pairs (((int 1), (int 11)) ∷ ((int 2), (int 99)) ∷ []))))
    ∷ ((codes "P_q"), (function (pairs (((int 1), (int 5)) ∷ ((int 2), (int 5)) ∷ [])))) ∷ []

-- the instance 2 takes the message 3, counts the one that is left, and adds p and q: 3 + 1 + 99 + 5
pops_and_counts : Sect system 1 start (word_at [])
    ≡ leads (element (codes "n") 2 ∷ element (codes "n") 2 ∷ whole (codes "x") ∷ whole (codes "y") ∷ []) after_2 []
pops_and_counts = refl

-- the instance 3
other_process : Sect system 2 start (word_at [])
    ≡ leads [] after_3 []
other_process = refl

-- the instance 2 once more, where it is at Done
at_done : Sect system 1 after_2 (word_at [])
    ≡ record { trace = []; end = Nowhere }
at_done = refl

-- so these steps are allowed
allowed : Allows system 1 start after_2
allowed = record { words = []; prints = []; leads = refl }

allowed_to_skip : Allows system 2 start after_3
allowed_to_skip = record { words = []; prints = []; leads = refl }

-- which globals each instance is bound to
bound_to : map (λ m. m.globals) (system_of system).members
    ≡ (((codes "n") ∷ (codes "n") ∷ (codes "x") ∷ (codes "y") ∷ []) ∷ ((codes "n") ∷ (codes "n") ∷ (codes "x") ∷ (codes "y") ∷ []) ∷ ((codes "y") ∷ []) ∷ [])
bound_to = refl

-- the variables that instances have for themselves
own_variables : (system_of system).own
    ≡ (record { variable = (codes "P_p"); ids = ((int 1) ∷ (int 2) ∷ []) } ∷ record { variable = (codes "P_q"); ids = ((int 1) ∷ (int 2) ∷ []) } ∷ [])
own_variables = refl

-- the tree of the second process
tree_of_skip : option_map without_skips (find (codes "Q_l") (trees_of spec))
    ≡ Some (End [] (codes "Done"))
tree_of_skip = refl

-- its `skip` is counted
skip_is_there : find (codes "Q_l") (trees_of spec)
    ≡ Some (Skip (End [] (codes "Done")))
skip_is_there = refl

-- the tree of the first: the second read stands on what the first left of n
tree_of_both : find (codes "P_l") (trees_of spec)
    ≡ Some (With (made (codes "at") 1) (name (codes "self")) (With (made (codes "old") 2) (index (name (codes "n")) (trees ((name (made (codes "at") 1)) ∷ []))) (Await (binary infixs.Greater (call (codes "Len") (trees ((name (made (codes "old") 2)) ∷ []))) (n 0)) (With (made (codes "msg") 3) (call (codes "Head") (trees ((name (made (codes "old") 2)) ∷ []))) (With (made (codes "old") 4) (call (codes "Tail") (trees ((name (made (codes "old") 2)) ∷ []))) (With (made (codes "val") 5) (name (made (codes "msg") 3)) (With (made (codes "n") 6) (except (name (codes "n")) (paths ((((name (made (codes "at") 1)) ∷ []), (name (made (codes "old") 4))) ∷ []))) (With (made (codes "at") 7) (name (codes "self")) (With (made (codes "old") 8) (index (name (made (codes "n") 6)) (trees ((name (made (codes "at") 7)) ∷ []))) (With (made (codes "val") 9) (call (codes "Len") (trees ((name (made (codes "old") 8)) ∷ []))) (With (made (codes "val") 10) (binary infixs.Add (binary infixs.Add (binary infixs.Add (name (made (codes "val") 5)) (name (made (codes "val") 9))) (index (name (codes "P_p")) (trees ((name (codes "self")) ∷ [])))) (index (name (codes "P_q")) (trees ((name (codes "self")) ∷ [])))) (With (made (codes "at") 11) (n 1) (With (made (codes "val") 12) (name (codes "K")) (With (made (codes "old") 13) (index (name (codes "y")) (trees ((name (made (codes "at") 11)) ∷ []))) (With (made (codes "new") 14) (name (made (codes "val") 12)) (With (made (codes "y") 15) (except (name (codes "y")) (paths ((((name (made (codes "at") 11)) ∷ []), (name (made (codes "new") 14))) ∷ []))) (End (((codes "n"), (made (codes "n") 6)) ∷ ((codes "x"), (made (codes "val") 10)) ∷ ((codes "y"), (made (codes "y") 15)) ∷ []) (codes "Done"))))))))))))))))))
tree_of_both = refl
