use Rattle.std.proofs.Common.{◌+◌, ◌≤◌, map, sym, ◌∙◌, arith}
use Rattle.std.specs.Ordering.{nat_cmp}
use Rattle.pgo_base.specs.PairsView.{all_pairs}
use Rattle.pgo_base.specs.Size.{depth, members_size, graph_size}
use Rattle.pgo_base.specs.View.{data_of, pair_of, key_of, value_of}
use Rattle.pgo_base.specs.Falls.{items_depth-items, pairs_depth-pairs}
use Rattle.pgo_base.proofs.Ordered.{at_size, cmp_end, set_cmp, function_cmp, keys_size, values_size}
use Rattle.pgo_base.proofs.compare.+compare.Goals as goal

pub compare-compare_sets-requires : goal.compare-compare_sets-requires
compare-compare_sets-requires t c =
    let s : members_size (map data_of c.members.result.now) + 1 ≤ depth (data_of c.args.a.now) =
    rw (c.in-Set-Set.is-0, c.members.ensures) (omega (arith, items_depth-items c.in-Set-Set.x)) in
    (omega arith, tt)

pub compare-compare_functions-requires : goal.compare-compare_functions-requires
compare-compare_functions-requires t c =
    let s : graph_size (map pair_of (all_pairs c.pairs.result)) + 1 ≤ depth (data_of c.args.a.now) =
    rw (c.in-Fun-Fun.is-0, c.pairs.ensures) (omega (arith, pairs_depth-pairs c.in-Fun-Fun.x)) in
    (omega arith, tt)

pub compare-returns-in-Set-Set : goal.compare-returns-in-Set-Set
compare-returns-in-Set-Set t c =
    rw (c.in-Set-Set.is-0, c.in-Set-Set.is-1, ← c.members.ensures, ← c.members-in-Set-Set.ensures)
    (c.compare_sets.ensures ∙ sym (set_cmp c.members.result.now c.members-in-Set-Set.result.now))

pub compare-returns-in-Fun-Fun : goal.compare-returns-in-Fun-Fun
compare-returns-in-Fun-Fun t c =
    rw (c.in-Fun-Fun.is-0, c.in-Fun-Fun.is-1, ← c.pairs.ensures, ← c.pairs-in-Fun-Fun.ensures)
    (c.compare_functions.ensures ∙ sym (function_cmp (all_pairs c.pairs.result) (all_pairs c.pairs-in-Fun-Fun.result)))

pub compare_functions-compare_keys-domains-requires : goal.compare_functions-compare_keys-domains-requires
compare_functions-compare_keys-domains-requires t c = (omega (arith, keys_size (all_pairs c.args.xs)), tt)

pub compare_functions-compare_values-requires : goal.compare_functions-compare_values-requires
compare_functions-compare_values-requires t c = (omega (arith, values_size (all_pairs c.args.xs)), tt)

pub compare_members-compare-first-requires : goal.compare_members-compare-first-requires
compare_members-compare-first-requires t c =
    let s : depth (data_of c.index-xs-i.result) ≤ members_size (map data_of c.args.xs.now) = at_size data_of _ _ _ (omega arith) c.index-xs-i.is in
    (omega arith, tt)

pub compare_members-returns : goal.compare_members-returns
compare_members-returns t c = c.cmp.ensures ∙ sym (cmp_end data_of c.args.xs.now c.args.ys.now c.loop-i.i (omega (arith, c.min-n.ensures))) ∙ sym c.loop-i.invariant

pub compare_keys-compare-first-requires : goal.compare_keys-compare-first-requires
compare_keys-compare-first-requires t c =
    let s : depth (key_of c.at.result.now) ≤ members_size (map key_of (all_pairs c.args.xs)) = at_size key_of _ _ _ (omega (arith, c.len.ensures, c.min-n.ensures)) c.at.ensures in
    (omega arith, tt)

pub compare_keys-returns : goal.compare_keys-returns
compare_keys-returns t c =
    c.cmp.ensures ∙ (λ i. nat_cmp (c.len-3.ensures i) (c.len-4.ensures i)) ∙ sym (cmp_end key_of (all_pairs c.args.xs) (all_pairs c.args.ys) c.loop-i.i (omega (arith, c.min-n.ensures, c.len.ensures, c.len-2.ensures))) ∙ sym c.loop-i.invariant

pub compare_values-compare-first-requires : goal.compare_values-compare-first-requires
compare_values-compare-first-requires t c =
    let s : depth (value_of c.at.result.now) ≤ members_size (map value_of (all_pairs c.args.xs)) = at_size value_of _ _ _ (omega (arith, c.len.ensures, c.min-n.ensures)) c.at.ensures in
    (omega arith, tt)

pub compare_values-returns : goal.compare_values-returns
compare_values-returns t c =
    c.cmp.ensures ∙ (λ i. nat_cmp (c.len-3.ensures i) (c.len-4.ensures i)) ∙ sym (cmp_end value_of (all_pairs c.args.xs) (all_pairs c.args.ys) c.loop-i.i (omega (arith, c.min-n.ensures, c.len.ensures, c.len-2.ensures))) ∙ sym c.loop-i.invariant
