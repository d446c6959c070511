use Rattle.std.proofs.Common.{◌≡◌, drop}
use Rattle.pgo_put_sizes.specs.Lefts.{name_nodes}
use Rattle.pgo_sizes.specs.Left.{left_after}
use Rattle.pgo_put_sizes.proofs.lefts.take_name.Given as goal

abbrev pub invariant-loop-i : goal.invariant-loop-i
invariant-loop-i l = left_after l.left (name_nodes (drop l.i l.layers) l.x) ≡ left_after l.initial.left (name_nodes l.layers l.initial.x)
