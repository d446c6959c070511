use Rattle.std.proofs.Common.{◌≡◌, [], reverse}
use Rattle.pgo_base.specs.TreeSize.{height}
use Rattle.pgo_module_read.specs.Building.{steps_before}
use Rattle.pgo_module_read.proofs.steps.steps_before.Given as goal

abbrev pub invariant-loop-before : goal.invariant-loop-before
invariant-loop-before l = steps_before l.fn.next l.fn.sets [] ≡ steps_before l.next l.sets (reverse l.all)

abbrev pub decreases-loop-before : goal.decreases-loop-before
decreases-loop-before l = height l.next
