use Rattle.std.proofs.Common.{◌≡◌, drop}
use Rattle.pgo_put_sizes.specs.Counted as spec
use Rattle.pgo_sizes.specs.Left.{left_after}
use Rattle.pgo_put_sizes.proofs.counted.take_assignments.Given as goal

abbrev pub invariant-loop-a : goal.invariant-loop-a
invariant-loop-a l = left_after l.left (spec.assignments_nodes l.layers (drop l.a-index l.list)) ≡ left_after l.initial.left (spec.assignments_nodes l.layers l.list)
