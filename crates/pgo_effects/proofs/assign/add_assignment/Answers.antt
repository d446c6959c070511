use Rattle.std.proofs.Common.{ap, ◌∙◌}
use Rattle.std.proofs.lemmas.Result.{IfOk-weaker}
use Rattle.pgo_base.specs.ExprView.{tree}
use Rattle.pgo_effects.specs.Around.{around_view}
use Rattle.pgo_effects.specs.Puts.{puts_left, puts_tree}
use Rattle.pgo_effects.specs.SettingView.{setting_view}
use Rattle.pgo_effects.specs.Todos.{change_code}
use Rattle.pgo_effects.proofs.AssignLaws.{assignment_put}
use Rattle.pgo_effects.proofs.assign.add_assignment.Goals as goal

pub returns : goal.returns
returns c =
    let ls = (around_view c.args.around.now).layers in
    IfOk-weaker c.add_put_assignment.result _ _
    (λ r h. assignment_put (setting_view c.args.setting) c.args.effects.now.items c.add_put_assignment.new.effects.items c.in_ok-left.left (puts_left ls c.args.a.now.left) (tree c.get-2.result.now) (puts_tree ls c.args.a.now.right) (change_code r.0) c.args.used r.1 c.in_ok-left.ensures (c.get-2.ensures ∙ c.in_ok-right.ensures ∙ ap (puts_tree ls) c.get.ensures) h)
    c.add_put_assignment.ensures
