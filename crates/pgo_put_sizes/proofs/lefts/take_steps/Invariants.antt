use Rattle.std.proofs.Common.{◌≡◌, drop}
use Rattle.pgo_put_sizes.specs.Lefts.{steps_nodes}
use Rattle.pgo_sizes.specs.Left.{left_after}
use Rattle.pgo_put_sizes.proofs.lefts.take_steps.Given as goal

abbrev pub invariant-loop-step : goal.invariant-loop-step
invariant-loop-step l = left_after l.left (steps_nodes l.layers (drop l.step-index l.path)) ≡ left_after l.initial.left (steps_nodes l.layers l.path)
