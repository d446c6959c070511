use Rattle.std.proofs.Common.{◌≡◌, IfOk, List, rules, of_calls, map, subst}
use Rattle.std.specs.List.{dedup}
use Rattle.std.specs.List.Sorted.{IsSortedBy, IsStableBy}
use Rattle.std.proofs.lemmas.Fn.{dedup_same}
use Rattle.std.proofs.lemmas.List.Sorted.{answers_always}
use Rattle.pgo_base.specs.Data.{Data, keys}
use Rattle.pgo_base.specs.Pairs.{pairs_in_order}
use Rattle.pgo_base.specs.Sets.{IsSorted}
use Rattle.pgo_base.specs.View.{pair_of}
use Rattle.pgo_base.proofs.Keyed.{key_lt, key_eq, key_ranks, keyed}
use Rattle.pgo_base.proofs.value.Fun.from_pairs.Goals as goal
use Rattle.pgo_base.proofs.value.Fun.from_pairs.Goals.{After-dedup_by}

in_order : (c : After-dedup_by) → IsSorted (keys (map pair_of c.dedup_by.new.self.items)) × (map pair_of c.dedup_by.new.self.items ≡ pairs_in_order (map pair_of c.args.pairs.items))
in_order c =
    let sorted : IsSortedBy key_lt c.sort_by.new.self.items = c.in_ok-sort_by.ensures.sorted key_lt key_ranks (answers_always _ _ _ (λ f a r f' k. search (rules, of_calls))) in
    let stable : IsStableBy key_lt c.args.pairs.items c.sort_by.new.self.items = c.sort_by.ensures.stable key_lt key_ranks (answers_always _ _ _ (λ f a r f' k. search (rules, of_calls))) in
    let kept : c.dedup_by.new.self.items ≡ dedup key_eq c.sort_by.new.self.items = dedup_same _ key_eq _ (λ x y b f' x' y' k. search (rules, of_calls)) _ _ c.dedup_by.ensures.filtered in
    keyed c.args.pairs.items c.sort_by.new.self.items c.dedup_by.new.self.items stable sorted kept

in_order_after : (c : goal.After-from_sorted) → IsSorted (keys (map pair_of c.dedup_by.new.self.items)) × (map pair_of c.dedup_by.new.self.items ≡ pairs_in_order (map pair_of c.args.pairs.items))
in_order_after c =
    let sorted : IsSortedBy key_lt c.sort_by.new.self.items = c.in_ok-sort_by.ensures.sorted key_lt key_ranks (answers_always _ _ _ (λ f a r f' k. search (rules, of_calls))) in
    let stable : IsStableBy key_lt c.args.pairs.items c.sort_by.new.self.items = c.sort_by.ensures.stable key_lt key_ranks (answers_always _ _ _ (λ f a r f' k. search (rules, of_calls))) in
    let kept : c.dedup_by.new.self.items ≡ dedup key_eq c.sort_by.new.self.items = dedup_same _ key_eq _ (λ x y b f' x' y' k. search (rules, of_calls)) _ _ c.dedup_by.ensures.filtered in
    keyed c.args.pairs.items c.sort_by.new.self.items c.dedup_by.new.self.items stable sorted kept

pub from_sorted-requires : goal.from_sorted-requires
from_sorted-requires c = (in_order c).0

pub returns : goal.returns
returns c =
    let P : List (Data × Data) → Type 0 = λ y. IfOk c.from_sorted.result (λ f. f ≡ y) in
    subst P (in_order_after c).1 c.from_sorted.ensures
