use Rattle.std.proofs.Common.{ap, ◌∙◌, map, refl}
use Rattle.pgo_base.specs.ExprView.{tree}
use Rattle.pgo_meaning.specs.Statements.{assigned}
use Rattle.pgo_effects.specs.Assigned.{part_view}
use Rattle.pgo_effects.specs.SettingView.{setting_view}
use Rattle.pgo_effects.specs.Todos.{change_code}
use Rattle.pgo_effects.proofs.AssignLaws.{assignment_made}
use Rattle.pgo_effects.proofs.assign.add_put_assignment.Goals as goal

pub returns : goal.returns
returns c =
    let s = setting_view c.args.setting in let l = c.args.left.now in let ps = map part_view c.in_ok-path.path.items in let t = c.in_ok-name in
    assignment_made s c.args.effects.now.items c.add_steps.new.effects.items c.bind_place.new.effects.items l c.as_slice.result.now ps (tree c.args.right.now) l.name.name t.name (change_code c.in_ok-change.change) c.args.used c.in_ok-path.k c.in_ok-k.k t.next
    c.as_slice.ensures refl (λ f. c.in_ok-path.ensures f) (λ f. c.in_ok-k.ensures f) t.ensures.name
    (c.in_ok-change.ensures ∙ ap (λ l. assigned s c.args.left.now.name.name (map part_view l) t.name) c.as_slice-2.ensures.value) t.ensures.next
