use Rattle.std.proofs.Common.{◌≡◌}
use Rattle.pgo_base.specs.ExprView.{tree}
use Rattle.pgo_base.specs.TreeSize.{height}
use Rattle.pgo_put_sizes.specs.Lefts as spec
use Rattle.pgo_put_sizes.proofs.lefts.head_of.Given as goal

abbrev pub invariant-loop-step : goal.invariant-loop-step
invariant-loop-step l = spec.head_of (tree l.e) ≡ spec.head_of (tree l.initial.e)

abbrev pub decreases-loop-step : goal.decreases-loop-step
decreases-loop-step l = height (tree l.e)
