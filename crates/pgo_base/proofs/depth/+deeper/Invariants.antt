use Rattle.std.proofs.Common.{◌≤◌, ◌*◌, ◌+◌, max, map, drop}
use Rattle.pgo_base.specs.PairsView.{all_pairs}
use Rattle.pgo_base.specs.View.{data_of, pair_of}
use Rattle.pgo_base.specs.Size.{members_size, graph_size}
use Rattle.pgo_base.proofs.depth.+deeper.Given as goal

abbrev pub decreases-is_deeper : goal.decreases-is_deeper
decreases-is_deeper l = 2 * l.limit

abbrev pub decreases-is_some_deeper : goal.decreases-is_some_deeper
decreases-is_some_deeper l = 2 * l.limit + 1

abbrev pub decreases-is_some_part_deeper : goal.decreases-is_some_part_deeper
decreases-is_some_part_deeper l = 2 * l.limit + 1

abbrev pub invariant-is_some_deeper-loop-m : goal.invariant-is_some_deeper-loop-m
invariant-is_some_deeper-loop-m l = record {
  below : members_size (map data_of l.members) ≤ max l.limit (members_size (map data_of (drop l.m-index l.members)));
  above : members_size (map data_of (drop l.m-index l.members)) ≤ members_size (map data_of l.members);
}

abbrev pub invariant-is_some_part_deeper-loop-i : goal.invariant-is_some_part_deeper-loop-i
invariant-is_some_part_deeper-loop-i l = record {
  below : graph_size (map pair_of (all_pairs l.pairs)) ≤ max l.limit (graph_size (map pair_of (drop l.i (all_pairs l.pairs))));
  above : graph_size (map pair_of (drop l.i (all_pairs l.pairs))) ≤ graph_size (map pair_of (all_pairs l.pairs));
}
