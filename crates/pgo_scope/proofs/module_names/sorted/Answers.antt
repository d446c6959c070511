use Rattle.std.proofs.Common.{rules, of_calls}
use Rattle.std.proofs.lemmas.List.Sorted.{IsNonDecreasingBy-from_sort_by_key, answers_always}
use Rattle.pgo_scope.proofs.Sorting.{sorted_is}
use Rattle.pgo_scope.proofs.module_names.sorted.Goals as goal

pub returns : goal.returns
returns c =
    sorted_is (λ t. t.place) c.args.list.items c.sort_by_key.new.self.items
    (IsNonDecreasingBy-from_sort_by_key (λ t. t.place) c.sort_by_key.new.self.items c.in_ok-sort_by_key.ensures.sorted (λ a r q k. search (rules, of_calls)))
    (c.sort_by_key.ensures.stable (λ t. t.place) (answers_always _ _ _ (λ f a r f' k. search (rules, of_calls))))
