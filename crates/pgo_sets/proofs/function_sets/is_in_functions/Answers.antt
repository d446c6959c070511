use Rattle.std.proofs.Common.{ap, sym, ◌∙◌, option_map}
use Rattle.std.specs.Prelude.{Some}
use Rattle.pgo_base.specs.View.{data_of}
use Rattle.pgo_model.specs.FunctionSets.{fits, function_choices}
use Rattle.pgo_sets.proofs.Paired.{function_choices_is}
use Rattle.pgo_sets.proofs.function_sets.is_in_functions.Goals as goal

pub returns-in-Set-Set : goal.returns-in-Set-Set
returns-in-Set-Set c =
    ap Some c.is_function_between.ensures
    ∙ ap (option_map (λ cs. fits cs (data_of c.args.v.now))) (sym ((λ i. function_choices (data_of (c.in-Set-Set.is-0 i)) (data_of (c.in-Set-Set.is-1 i))) ∙ function_choices_is c.in-Set-Set.domain c.in-Set-Set.members))
