-- The highest so far and that of what is left are that of the whole, and each call has a lower limit or a shorter way to one.
use Rattle.std.proofs.Common.{◌≡◌, ◌+◌, ◌*◌, max, min, drop}
use Rattle.pgo_operands.specs.Operands.{lent_trees}
use Rattle.pgo_sizes.specs.Sums.{highest_in}
use Rattle.pgo_sizes.proofs.heights.+heights.Given as goal

abbrev pub invariant-highest_up_to-loop-one : goal.invariant-highest_up_to-loop-one
invariant-highest_up_to-loop-one l = max l.highest (min l.most (highest_in (lent_trees (drop l.one-index l.parts)))) ≡ min l.most (highest_in (lent_trees l.parts))

abbrev pub decreases-height_up_to : goal.decreases-height_up_to
decreases-height_up_to l = 3 * l.most

abbrev pub decreases-parts_up_to : goal.decreases-parts_up_to
decreases-parts_up_to l = 3 * l.most + 2

abbrev pub decreases-highest_up_to : goal.decreases-highest_up_to
decreases-highest_up_to l = 3 * l.most + 1
