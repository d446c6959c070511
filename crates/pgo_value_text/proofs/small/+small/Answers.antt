-- A part is less deep than the whole, and the tests of a value are those of its parts.
use Rattle.std.proofs.Common.{◌≡◌, ◌≤◌, max, map, leb, arith, ap, sym, ◌∙◌, suc}
use Rattle.std.proofs.lemmas.Bool.{le-leb, lt-leb}
use Rattle.pgo_base.specs.PairsView.{all_pairs}
use Rattle.pgo_base.specs.Size.{depth, members_size, graph_size}
use Rattle.pgo_base.specs.View.{data_of, pair_of}
use Rattle.pgo_value_text.proofs.Sizes.{at_size, at_graph, set_size, function_size}
use Rattle.pgo_value_text.proofs.Counts.{set_members, function_pairs, both, not_both}
use Rattle.pgo_value_text.proofs.small.+small.Goals as goal

pub is_small-are_small-requires : goal.is_small-are_small-requires
is_small-are_small-requires t c =
    let s : depth (data_of c.args.value.now) ≡ suc (members_size (map data_of c.members-members.result.now)) = set_size _ _ c.members-members.result.now c.in-Set.is c.members-members.ensures in
    (omega arith, tt)

pub is_small-all_small-requires : goal.is_small-all_small-requires
is_small-all_small-requires t c =
    let s : depth (data_of c.args.value.now) ≡ suc (graph_size (map pair_of (all_pairs c.pairs-list.result))) = function_size _ _ (all_pairs c.pairs-list.result) c.in-Fun.is c.pairs-list.ensures in
    (omega arith, tt)

pub are_small-is_small-requires : goal.are_small-is_small-requires
are_small-is_small-requires t c =
    let s : depth (data_of c.m-item.result) ≤ members_size (map data_of c.args.members.now) = at_size _ _ _ (omega arith) c.m-item.is in
    (omega arith, tt)

pub all_small-is_small-requires : goal.all_small-is_small-requires
all_small-is_small-requires t c =
    let s : max (depth (data_of c.at-p.result.now.0)) (depth (data_of c.at-p.result.now.1)) ≤ graph_size (map pair_of (all_pairs c.args.list)) = at_graph _ _ _ (omega (arith, c.len-i-end.ensures)) c.at-p.ensures in
    (omega arith, tt)

pub all_small-is_small-requires-else-not-is_small : goal.all_small-is_small-requires-else-not-is_small
all_small-is_small-requires-else-not-is_small t c =
    let s : max (depth (data_of c.at-p.result.now.0)) (depth (data_of c.at-p.result.now.1)) ≤ graph_size (map pair_of (all_pairs c.args.list)) = at_graph _ _ _ (omega (arith, c.len-i-end.ensures)) c.at-p.ensures in
    (omega arith, tt)

pub is_small-returns-then-members-le-MOST_MEMBERS : goal.is_small-returns-then-members-le-MOST_MEMBERS
is_small-returns-then-members-le-MOST_MEMBERS t c =
    both _ _ _ (le-leb _ _ c.if-members-le-MOST_MEMBERS.true) c.are_small.ensures ∙ sym (set_members _ _ c.members-members.result.now c.in-Set.is c.members-members.ensures)

pub is_small-returns-else-members-le-MOST_MEMBERS : goal.is_small-returns-else-members-le-MOST_MEMBERS
is_small-returns-else-members-le-MOST_MEMBERS t c =
    let f = lt-leb _ _ c.if-members-le-MOST_MEMBERS.false in
    not_both _ _ _ f f ∙ sym (set_members _ _ c.members-members.result.now c.in-Set.is c.members-members.ensures)

pub is_small-returns-then-len-le-MOST_MEMBERS : goal.is_small-returns-then-len-le-MOST_MEMBERS
is_small-returns-then-len-le-MOST_MEMBERS t c =
    both _ _ _ (ap (λ n. leb n 65536) (sym c.len.ensures) ∙ le-leb _ _ c.if-len-le-MOST_MEMBERS.true) c.all_small.ensures ∙ sym (function_pairs _ _ (all_pairs c.pairs-list.result) c.in-Fun.is c.pairs-list.ensures)

pub is_small-returns-else-len-le-MOST_MEMBERS : goal.is_small-returns-else-len-le-MOST_MEMBERS
is_small-returns-else-len-le-MOST_MEMBERS t c =
    let f = lt-leb _ _ c.if-len-le-MOST_MEMBERS.false in
    not_both _ _ _ (ap (λ n. leb n 65536) (sym c.len.ensures) ∙ f) f ∙ sym (function_pairs _ _ (all_pairs c.pairs-list.result) c.in-Fun.is c.pairs-list.ensures)
