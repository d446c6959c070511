use Rattle.std.proofs.Common.{[], ◌∷◌, ◌++◌, map, ap, ◌∙◌}
use Rattle.pgo_sets.specs.Choices.{choice_of}
use Rattle.pgo_sets.proofs.Paired.{sorted_two}
use Rattle.pgo_sets.proofs.function_sets.pairs_of.Goals as goal

pub functions_over-requires : goal.functions_over-requires
functions_over-requires c =
    let first = c.in_ok-push.ensures.items ∙ ap (λ cs. cs ++ c.element_choice.result ∷ []) c.in_ok-choices.ensures.items in
    let both = c.as_slice.ensures.value ∙ c.in_ok-push-2.ensures.items ∙ ap (λ cs. cs ++ c.element_choice-2.result ∷ []) first in
    sorted_two c.args.left.now c.args.right.now c.as_slice.result.now (ap (map choice_of) both ∙ (λ i. c.element_choice.ensures i ∷ c.element_choice-2.ensures i ∷ []))
