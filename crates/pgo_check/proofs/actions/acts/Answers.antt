use Rattle.std.proofs.Common.{◌≡◌, map, ap, sym, ◌∙◌}
use Rattle.std.specs.Prelude.{None, Some, option_map, reverse}
use Rattle.pgo_base.specs.ExprView.{tree}
use Rattle.pgo_base.specs.Lookup.{find}
use Rattle.pgo_base.specs.View.{data_of}
use Rattle.pgo_model.specs.Module.{actions_of}
use Rattle.pgo_model.specs.ModuleView.{defined_view, module_view}
use Rattle.pgo_check.proofs.Variables.{acts_not, acts_when}
use Rattle.pgo_check.proofs.actions.acts.Goals as goal

pub returns-in-None : goal.returns-in-None
returns-in-None c =
    let m = module_view c.args.m.now.module.now in
    let none : find c.args.label.now (reverse (actions_of m)) ≡ None =
    sym (c.requires.sees.bodies c.args.label.now) ∙ ap (option_map (λ r. r.now)) (sym c.in-None.ensures) in
    (λ h. absurd (cc), λ a. absurd (acts_not m c.args.m.now.consts.now c.args.label.now (data_of c.args.id.now) c.args.s.now c.args.t.now none a))

pub returns-in-Some : goal.returns-in-Some
returns-in-Some c =
    let m = module_view c.args.m.now.module.now in
    let body = tree c.get-in-Some.result.now in
    let found : find c.args.label.now (reverse (actions_of m)) ≡ Some body =
    sym (c.requires.sees.bodies c.args.label.now) ∙ ap (option_map (λ r. r.now)) (sym c.in-Some.ensures) ∙ ap Some (sym c.get-in-Some.ensures) in
    acts_when c.is_step.result (map defined_view c.args.defs.now) m c.args.m.now.consts.now c.args.m.now.self_name c.args.label.now (data_of c.args.id.now) c.args.s.now c.args.t.now body c.requires.sees.named_self found (c.requires.seen (Some c.args.t.now)) c.is_step.ensures
