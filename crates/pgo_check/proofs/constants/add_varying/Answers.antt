use Rattle.std.proofs.Common.{[], ◌∷◌, ◌++◌, map, ap, subst, sym, ◌∙◌}
use Rattle.std.proofs.lemmas.List.{map_push}
use Rattle.pgo_base.specs.NameMaps.{has_name}
use Rattle.pgo_model.specs.ModuleView.{defined_view}
use Rattle.pgo_check.specs.Constants.{MeansSame}
use Rattle.pgo_check.proofs.ConstantDefinitions.{varying_set, name_seen}
use Rattle.pgo_check.proofs.constants.add_varying.Goals as goal

pub returns : goal.returns
returns c = λ variables written m.
    let d = defined_view c.args.d.now in
    let varying = c.set.new.self in
    subst (λ ms. MeansSame variables (has_name varying) ms (written ++ d ∷ [])) (sym (ap (map defined_view) c.in_ok-push.ensures ∙ map_push defined_view c.args.made.now c.in_ok-same.same))
    (varying_set variables c.args.varying.now varying tt (map defined_view c.args.made.now) written d (defined_view c.in_ok-same.same) c.name.result.now c.in_ok-same.ensures (c.name.ensures ∙ name_seen c.args.d.now) c.in_ok-set.ensures.noted m)
