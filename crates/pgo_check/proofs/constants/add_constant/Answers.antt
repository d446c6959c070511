use Rattle.std.proofs.Common.{[], ◌∷◌, ◌++◌, map, ap, subst, sym, ◌∙◌}
use Rattle.std.proofs.lemmas.List.{map_push}
use Rattle.pgo_model.specs.ModuleView.{defined_view}
use Rattle.pgo_check.specs.Constants.{MeansSame}
use Rattle.pgo_check.proofs.ConstantDefinitions.{constant_more}
use Rattle.pgo_check.proofs.constants.add_constant.Goals as goal

pub returns : goal.returns
returns c = λ variables varies written k m.
    let d = defined_view c.args.d.now in
    subst (λ ms. MeansSame variables varies ms (written ++ d ∷ [])) (sym (ap (map defined_view) c.in_ok-push.ensures ∙ map_push defined_view c.args.made.now c.in_ok-same.same))
    (constant_more variables varies (map defined_view c.args.made.now) written d (defined_view c.in_ok-same.same) k c.in_ok-same.ensures m)
