-- What the loops keep: the test of what is left is the test of all.
use Rattle.std.proofs.Common.{◌≡◌, ◌+◌, ◌*◌, map, drop}
use Rattle.pgo_base.specs.Data.{items, pairs}
use Rattle.pgo_base.specs.PairsView.{all_pairs}
use Rattle.pgo_base.specs.Size.{depth, members_size, graph_size}
use Rattle.pgo_base.specs.View.{data_of, pair_of}
use Rattle.pgo_value_text.specs.IsValueText as text
use Rattle.pgo_value_text.proofs.small.+small.Given as goal

abbrev pub invariant-are_small-loop-m : goal.invariant-are_small-loop-m
invariant-are_small-loop-m l = text.are_small (items (map data_of l.members)) ≡ text.are_small (items (map data_of (drop l.m-index l.members)))

abbrev pub invariant-all_small-loop-i : goal.invariant-all_small-loop-i
invariant-all_small-loop-i l = text.all_small (pairs (map pair_of (all_pairs l.list))) ≡ text.all_small (pairs (map pair_of (drop l.i (all_pairs l.list))))

abbrev pub decreases-is_small : goal.decreases-is_small
decreases-is_small l = 2 * depth (data_of l.value.now)

abbrev pub decreases-are_small : goal.decreases-are_small
decreases-are_small l = 2 * members_size (map data_of l.members.now) + 1

abbrev pub decreases-all_small : goal.decreases-all_small
decreases-all_small l = 2 * graph_size (map pair_of (all_pairs l.list)) + 1
