use Rattle.pgo_base.specs.ExprView.{tree}
use Rattle.pgo_effects.specs.SettingView.{setting_view}
use Rattle.pgo_effects.proofs.NameLaws.{binding_added}
use Rattle.pgo_effects.proofs.names.add_binding.Goals as goal

pub returns : goal.returns
returns c =
    binding_added (setting_view c.args.setting) c.args.effects.now.items c.evaluate_put.new.effects.items c.push.new.self.items c.binding_effect.result c.args.origin.now c.in_ok-base.base c.args.name (tree c.args.e.now) (tree c.in_ok-rest.rest) c.in_ok-rest._used
    c.in_ok-base.ensures (λ g. c.in_ok-rest.ensures g) c.binding_effect.ensures c.in_ok-push.ensures.items
