use Rattle.std.proofs.Common.{◌≡◌}
use Rattle.pgo_base.specs.ExprView.{tree}
use Rattle.pgo_base.specs.TreeSize.{height}
use Rattle.pgo_put_sizes.specs.Lefts.{spine_nodes}
use Rattle.pgo_sizes.specs.Left.{left_after}
use Rattle.pgo_put_sizes.proofs.lefts.take_spine.Given as goal

abbrev pub invariant-loop-step : goal.invariant-loop-step
invariant-loop-step l = left_after l.left (spine_nodes l.layers (tree l.e)) ≡ left_after l.initial.left (spine_nodes l.layers (tree l.initial.e))

abbrev pub decreases-loop-step : goal.decreases-loop-step
decreases-loop-step l = height (tree l.e)
