use Rattle.std.proofs.Common.{◌++◌, map, ap, sym, ◌∙◌}
use Rattle.std.proofs.lemmas.Result.{IfOk-equal}
use Rattle.pgo_model.specs.ModuleText.{parameters_text}
use Rattle.pgo_pluscal.proofs.ParameterNames.{parameters_added}
use Rattle.pgo_pluscal.proofs.heads.push_parameters.Goals as goal

pub returns-in_ok-push_names-in-Some : goal.returns-in_ok-push_names-in-Some
returns-in_ok-push_names-in-Some c =
    IfOk-equal c.push_words-in-Some.result _ _ _ c.push_words-in-Some.ensures
    (parameters_added c.args.bytes.now.items _ _ c.in-Some.first.now.name (map (λ x. x.name) c.in-Some.rest.now) c.in_ok-push_words-in-Some.ensures c.in_ok-push_names-in-Some.ensures
    ∙ ap (λ ps. c.args.bytes.now.items ++ parameters_text (map (λ x. x.name) ps)) (sym c.in-Some.ensures.cases.0))
