use Rattle.std.proofs.lemmas.Result.{IfOk-at_ok}
use Rattle.pgo_base.specs.ExprView.{tree}
use Rattle.pgo_syntax.specs.StatementView.{statement}
use Rattle.pgo_effects.specs.Around.{around_view}
use Rattle.pgo_effects.specs.SettingView.{setting_view}
use Rattle.pgo_effects.specs.Todos.{code_of}
use Rattle.pgo_effects.proofs.BranchLaws.{while_code}
use Rattle.pgo_effects.proofs.branches.while_piece.Goals as goal

pub returns : goal.returns
returns c =
    let s = setting_view c.args.setting in let a = around_view c.args.around.now in let t = c.in_ok-effects in
    let e = IfOk-at_ok _ t.ensures.first c.evaluate_alone-evaluated.ensures in
    let x = IfOk-at_ok _ t.ensures.second c.part_todo.ensures in
    λ n. while_code s a t.effects.items (tree t.condition) (tree c.args.condition.now) n (statement c.args.body.now) (code_of s t.first) (λ f. e f) (x s)
