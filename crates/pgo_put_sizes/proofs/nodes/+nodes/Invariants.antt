-- What is left behind the rest is what is left behind the whole, and each level takes a node at least.
use Rattle.std.proofs.Common.{◌≡◌, ◌+◌, ◌*◌, ◌≤◌, drop}
use Rattle.pgo_base.specs.ExprView.{tree}
use Rattle.pgo_operands.specs.Operands.{lent_trees}
use Rattle.pgo_put_sizes.specs.Levels.{parts_under}
use Rattle.pgo_rewrite.specs.Scoped.{under_at}
use Rattle.pgo_rewrite.specs.Scopes.{in_scope}
use Rattle.pgo_sizes.specs.Left.{left_after}
use Rattle.pgo_sizes.specs.Sums.{nodes_in}
use Rattle.pgo_put_sizes.proofs.nodes.+nodes.Given as goal

abbrev pub invariant-take_each-loop-i : goal.invariant-take_each-loop-i
invariant-take_each-loop-i l =
    let around = under_at (tree l.e) l.bound (in_scope l.scope) in
    (left_after l.left (nodes_in (parts_under l.layers around l.i (lent_trees (drop l.i l.list)))) ≡ left_after l.initial.left (nodes_in (parts_under l.layers around 0 (lent_trees l.list))))
    × (l.left ≤ l.initial.left)

abbrev pub decreases-take_put_nodes : goal.decreases-take_put_nodes
decreases-take_put_nodes l = 4 * l.left

abbrev pub decreases-take_operands : goal.decreases-take_operands
decreases-take_operands l = 4 * l.left + 3

abbrev pub decreases-take_each : goal.decreases-take_each
decreases-take_each l = 4 * l.left + 2

abbrev pub decreases-take_within : goal.decreases-take_within
decreases-take_within l = 4 * l.left + 1
