use Rattle.std.proofs.Common.{◌≡◌, drop}
use Rattle.pgo_put_sizes.specs.Counted as spec
use Rattle.pgo_sizes.specs.Left.{left_after}
use Rattle.pgo_put_sizes.proofs.counted.take_names.Given as goal

abbrev pub invariant-loop-w : goal.invariant-loop-w
invariant-loop-w l = left_after l.left (spec.names_nodes l.all.items (drop l.w-index l.names)) ≡ left_after l.initial.left (spec.names_nodes l.layers l.names)
