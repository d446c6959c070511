use Rattle.std.proofs.Common.{map, ap, sym, ◌∙◌, subst, option_map, Some}
use Rattle.pgo_base.specs.Data.{keys}
use Rattle.pgo_base.specs.Sets.{IsSorted}
use Rattle.pgo_base.specs.PairsView.{all_pairs}
use Rattle.pgo_base.specs.View.{pair_of}
use Rattle.pgo_sets.specs.Choices.{choice_of}
use Rattle.pgo_sets.proofs.Paired.{sorted_choices}
use Rattle.pgo_sets.proofs.function_sets.records.Goals as goal

pub functions_over-requires : goal.functions_over-requires
functions_over-requires c =
    let sorted = subst (λ ps. IsSorted (keys ps)) (sym c.in_order.ensures.pairs) c.in_order.ensures.sorted in
    sorted_choices (map pair_of (all_pairs c.in_order.result)) c.as_slice.result.now sorted (sym c.in_ok-choices.ensures ∙ ap (option_map (λ cs. map choice_of cs.items)) c.in-Some.is ∙ ap (λ cs. Some (map choice_of cs)) (sym c.as_slice.ensures.value))
