use Rattle.std.proofs.Common.{rules, of_calls, ap, ◌∙◌}
use Rattle.std.proofs.lemmas.List.Sorted.{IsNonDecreasingBy-from_sort_by_key, answers_always}
use Rattle.pgo_uses.specs.PieceView.{placed_names}
use Rattle.pgo_scope.proofs.Sorting.{sorted_is, in_order_map}
use Rattle.pgo_scope.proofs.twice.sorted.Goals as goal

pub returns : goal.returns
returns c =
    ap placed_names
    (sorted_is (λ x. x.now.place) c.args.list.items c.sort_by_key.new.self.items
    (IsNonDecreasingBy-from_sort_by_key (λ x. x.now.place) c.sort_by_key.new.self.items c.in_ok-sort_by_key.ensures.sorted (λ a r q k. search (rules, of_calls)))
    (c.sort_by_key.ensures.stable (λ x. x.now.place) (answers_always _ _ _ (λ f a r f' k. search (rules, of_calls)))))
    ∙ in_order_map (λ x. x.now) (λ x. x.place) c.args.list.items
