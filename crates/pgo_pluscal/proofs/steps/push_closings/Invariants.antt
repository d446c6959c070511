use Rattle.std.proofs.Common.{◌≡◌, ◌≤◌, ◌++◌}
use Rattle.pgo_pluscal.specs.Steps.{closings}
use Rattle.pgo_pluscal.proofs.steps.push_closings.Given as goal

abbrev pub invariant-loop-left : goal.invariant-loop-left
invariant-loop-left l = (l.bytes.items ++ closings l.level l.left ≡ l.initial.bytes.items ++ closings l.level l.blocks) × (l.left ≤ l.blocks)

abbrev pub decreases-loop-left : goal.decreases-loop-left
decreases-loop-left l = l.left
