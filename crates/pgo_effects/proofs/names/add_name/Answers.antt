use Rattle.std.proofs.Common.{◌∙◌}
use Rattle.pgo_base.specs.ExprView.{tree}
use Rattle.pgo_effects.specs.SettingView.{setting_view}
use Rattle.pgo_effects.proofs.NameLaws.{name_added}
use Rattle.pgo_effects.proofs.names.add_name.Goals as goal

pub returns-clause-effects : goal.returns-clause-effects
returns-clause-effects c =
    name_added (setting_view c.args.setting) c.args.effects.now.items c.add_binding.new.effects.items c.args.layers.items c.args.w.now c.in_ok-n.n.name (tree c.get.result.now) (tree c.origin_of.result.now)
    c.origin_of.ensures c.in_ok-n.ensures.name (c.get.ensures ∙ c.in_ok-n.ensures.value) (λ k. c.in_ok-add_binding.ensures k)
