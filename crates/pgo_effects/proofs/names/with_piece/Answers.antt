use Rattle.std.proofs.Common.{ap, ◌∙◌}
use Rattle.pgo_syntax.specs.StatementView.{statement}
use Rattle.pgo_effects.specs.Around.{around_view}
use Rattle.pgo_effects.specs.SettingView.{setting_view}
use Rattle.pgo_effects.specs.Todos.{code_of}
use Rattle.pgo_effects.proofs.NameLaws.{with_code}
use Rattle.pgo_effects.proofs.names.with_piece.Goals as goal

pub returns : goal.returns
returns c =
    let s = setting_view c.args.setting in let a = around_view c.args.around.now in
    λ n. with_code s a c.new-effects.result.items c.add_names.new.effects.items c.in_ok-layers.layers.items c.in_ok-behind.behind.items n c.args.names.now (statement c.args.body.now) (code_of s c.in_ok-todo.todo)
    (c.in_ok-layers.ensures ∙ c.deref-2.ensures.value ∙ ap (λ v. v.items) c.deref.ensures) c.new-effects.ensures.items c.in_ok-behind.ensures.layers (λ k. c.in_ok-behind.ensures.effects k) (c.in_ok-todo.ensures s)
