use Rattle.std.proofs.Common.{map, ap, sym, ◌∙◌, option_map, Some}
use Rattle.pgo_base.specs.View.{data_of}
use Rattle.pgo_model.specs.Operators.{sequence_at}
use Rattle.pgo_sets.specs.Choices.{choice_of}
use Rattle.pgo_sets.proofs.Numbered.{sorted_sequence}
use Rattle.pgo_sets.proofs.Paired.{sorted_choices}
use Rattle.pgo_sets.proofs.function_sets.product_of.Goals as goal

pub functions_over-requires : goal.functions_over-requires
functions_over-requires c =
    let ss = map data_of c.args.factors.now in
    sorted_choices (sequence_at 1 ss) c.as_slice.result.now (sorted_sequence 1 ss) (sym c.in_ok-choices.ensures ∙ ap (option_map (λ cs. map choice_of cs.items)) c.in-Some.is ∙ ap (λ cs. Some (map choice_of cs)) (sym c.as_slice.ensures.value))
