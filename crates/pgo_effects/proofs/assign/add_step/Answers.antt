use Rattle.pgo_base.specs.ExprView.{tree}
use Rattle.pgo_effects.specs.SettingView.{setting_view}
use Rattle.pgo_effects.proofs.AssignLaws.{step_index}
use Rattle.pgo_effects.proofs.assign.add_step.Goals as goal

pub returns-in_ok-name-in-Index : goal.returns-in_ok-name-in-Index
returns-in_ok-name-in-Index c =
    let t = c.in_ok-name-in-Index in
    step_index (setting_view c.args.setting) c.args.effects.now.items c.bind_place.new.effects.items c.args.step.now c.in-Index.e (tree c.get.result.now) t.name c.args.used c.in_ok-k-in-Index.k t.next
    c.in-Index.is c.get.ensures t.ensures.name t.ensures.next (λ f. c.in_ok-k-in-Index.ensures f)
