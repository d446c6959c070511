-- What is left decides; each call is about less deep values.
use Rattle.std.proofs.Common.{◌+◌, ◌*◌, map, drop}
use Rattle.pgo_base.specs.Data.{items, pairs}
use Rattle.pgo_base.specs.PairsView.{all_pairs}
use Rattle.pgo_base.specs.Size.{depth, members_size, graph_size}
use Rattle.pgo_base.specs.View.{data_of, pair_of}
use Rattle.pgo_model.specs.Value.{AreValues, ArePairs}
use Rattle.pgo_heads.proofs.well_formed.+well_formed.Given as goal

abbrev pub decreases-value_is_well_formed : goal.decreases-value_is_well_formed
decreases-value_is_well_formed l = 2 * depth (data_of l.value.now)

abbrev pub decreases-members_are_well_formed : goal.decreases-members_are_well_formed
decreases-members_are_well_formed l = 2 * members_size (map data_of l.members.now) + 1

abbrev pub decreases-pairs_are_well_formed : goal.decreases-pairs_are_well_formed
decreases-pairs_are_well_formed l = 2 * graph_size (map pair_of (all_pairs l.list)) + 1

abbrev pub invariant-members_are_well_formed-loop-m : goal.invariant-members_are_well_formed-loop-m
invariant-members_are_well_formed-loop-m l = AreValues (items (map data_of (drop l.m-index l.members))) → AreValues (items (map data_of l.members))

abbrev pub invariant-pairs_are_well_formed-loop-i : goal.invariant-pairs_are_well_formed-loop-i
invariant-pairs_are_well_formed-loop-i l = ArePairs (pairs (map pair_of (drop l.i (all_pairs l.list)))) → ArePairs (pairs (map pair_of (all_pairs l.list)))
