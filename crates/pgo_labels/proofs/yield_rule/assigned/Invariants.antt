-- What is made and what is left are the whole.
use Rattle.std.proofs.Common.{◌≡◌, ◌++◌, ◌∷◌, [], List, drop}
use Rattle.std.specs.Prelude.{flat_map}
use Rattle.pgo_base.specs.Tree.{Tree}
use Rattle.pgo_syntax.specs.declared.assignment.Assignment.{Assignment}
use Rattle.pgo_operands.specs.Operands.{lent_trees}
use Rattle.pgo_labels.specs.YieldRule as spec
use Rattle.pgo_labels.proofs.yield_rule.assigned.Given as goal

abbrev pub invariant-loop-one : goal.invariant-loop-one
invariant-loop-one l =
    let f : Assignment → List Tree = λ a. spec.indices a.left.path ++ a.right ∷ [] in
    lent_trees l.parts.items ++ flat_map f (drop l.one-index l.list) ≡ flat_map f l.assignments
