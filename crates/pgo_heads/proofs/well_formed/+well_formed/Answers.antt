use Rattle.std.proofs.Common.{◌≤◌, suc, map, arith}
use Rattle.pgo_base.specs.Falls.{items_depth-items, pairs_depth-pairs}
use Rattle.pgo_base.specs.PairsView.{all_pairs}
use Rattle.pgo_base.specs.Size.{depth, members_size, graph_size}
use Rattle.pgo_base.specs.View.{data_of, pair_of}
use Rattle.pgo_heads.proofs.WellFormedParts.{member_low, pair_low, set_well_formed, function_well_formed}
use Rattle.pgo_heads.proofs.well_formed.+well_formed.Goals as goal

pub members_are_well_formed-value_is_well_formed-requires : goal.members_are_well_formed-value_is_well_formed-requires
members_are_well_formed-value_is_well_formed-requires t c =
    let s = member_low c.args.members.now c.loop-m.m-index c.m-item.result c.loop-m-test.true c.m-item.is in
    (omega (arith, s), tt)

pub pairs_are_well_formed-value_is_well_formed-requires : goal.pairs_are_well_formed-value_is_well_formed-requires
pairs_are_well_formed-value_is_well_formed-requires t c =
    let s = pair_low (all_pairs c.args.list) c.loop-i.i c.at-p.result.now (omega (arith, c.loop-i-test.true, c.len-i-end.ensures)) c.at-p.ensures in
    (omega (arith, s.0), tt)

pub pairs_are_well_formed-value_is_well_formed-requires-in-loop-i : goal.pairs_are_well_formed-value_is_well_formed-requires-in-loop-i
pairs_are_well_formed-value_is_well_formed-requires-in-loop-i t c =
    let s = pair_low (all_pairs c.args.list) c.loop-i.i c.at-p.result.now (omega (arith, c.loop-i-test.true, c.len-i-end.ensures)) c.at-p.ensures in
    (omega (arith, s.1), tt)

pub value_is_well_formed-members_are_well_formed-requires : goal.value_is_well_formed-members_are_well_formed-requires
value_is_well_formed-members_are_well_formed-requires t c =
    let s : suc (members_size (map data_of c.in_order.result.now)) ≤ depth (data_of c.args.value.now) =
    rw (c.in-Set.is, c.in_order.ensures.members) (omega (arith, items_depth-items c.in-Set.s)) in
    (omega (arith, s), tt)

pub value_is_well_formed-pairs_are_well_formed-requires : goal.value_is_well_formed-pairs_are_well_formed-requires
value_is_well_formed-pairs_are_well_formed-requires t c =
    let s : suc (graph_size (map pair_of (all_pairs c.in_order-in-Fun.result))) ≤ depth (data_of c.args.value.now) =
    rw (c.in-Fun.is, c.in_order-in-Fun.ensures.pairs) (omega (arith, pairs_depth-pairs c.in-Fun.f)) in
    (omega (arith, s), tt)

pub value_is_well_formed-returns-in-Set : goal.value_is_well_formed-returns-in-Set
value_is_well_formed-returns-in-Set t c = set_well_formed c.args.value.now c.in-Set.s c.in_order.result.now c.in-Set.is c.in_order.ensures.members c.in_order.ensures.sorted c.members_are_well_formed.ensures

pub value_is_well_formed-returns-in-Fun : goal.value_is_well_formed-returns-in-Fun
value_is_well_formed-returns-in-Fun t c = function_well_formed c.args.value.now c.in-Fun.f (all_pairs c.in_order-in-Fun.result) c.in-Fun.is c.in_order-in-Fun.ensures.pairs c.in_order-in-Fun.ensures.sorted c.pairs_are_well_formed.ensures
