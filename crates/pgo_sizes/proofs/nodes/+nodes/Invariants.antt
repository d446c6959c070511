-- What is left behind the rest is what is left behind the whole, and each call is about less high expressions.
use Rattle.std.proofs.Common.{◌≡◌, ◌+◌, ◌*◌, drop}
use Rattle.pgo_base.specs.ExprView.{tree}
use Rattle.pgo_base.specs.TreeSize.{height}
use Rattle.pgo_operands.proofs.Heights.{highest}
use Rattle.pgo_operands.specs.Operands.{lent_trees}
use Rattle.pgo_sizes.specs.Left.{left_after}
use Rattle.pgo_sizes.specs.Sums.{nodes_in}
use Rattle.pgo_sizes.proofs.nodes.+nodes.Given as goal

abbrev pub invariant-take_each-loop-one : goal.invariant-take_each-loop-one
invariant-take_each-loop-one l = left_after l.left (nodes_in (lent_trees (drop l.one-index l.list))) ≡ left_after l.initial.left (nodes_in (lent_trees l.list))

abbrev pub decreases-take_nodes : goal.decreases-take_nodes
decreases-take_nodes l = 2 * height (tree l.e.now)

abbrev pub decreases-take_each : goal.decreases-take_each
decreases-take_each l = 2 * highest (lent_trees l.list.now) + 1
