use Rattle.std.proofs.Common.{sym, ◌∙◌, subst}
use Rattle.pgo_base.specs.View.{data_of}
use Rattle.pgo_model.specs.FunctionSets.{product}
use Rattle.pgo_sets.specs.Answers.{Answers}
use Rattle.pgo_sets.proofs.Paired.{product_is}
use Rattle.pgo_sets.proofs.function_sets.product.Goals as goal

pub returns-in-Set-Set : goal.returns-in-Set-Set
returns-in-Set-Set c =
    subst (Answers c.pairs_of.result) (sym ((λ i. product (data_of (c.in-Set-Set.is-0 i)) (data_of (c.in-Set-Set.is-1 i))) ∙ product_is c.in-Set-Set.left c.in-Set-Set.right)) c.pairs_of.ensures
