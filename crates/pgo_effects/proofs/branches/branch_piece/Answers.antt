use Rattle.pgo_base.specs.ExprView.{tree}
use Rattle.pgo_syntax.specs.Statement.{guarded}
use Rattle.pgo_syntax.specs.StatementView.{branch_parts, statement}
use Rattle.std.proofs.Common.{map}
use Rattle.std.proofs.lemmas.Result.{IfOk-at_ok}
use Rattle.pgo_effects.specs.Around.{around_view}
use Rattle.pgo_effects.specs.SettingView.{setting_view}
use Rattle.pgo_effects.specs.Todos.{code_of, otherwise}
use Rattle.pgo_effects.proofs.BranchLaws.{branch_code}
use Rattle.pgo_effects.proofs.branches.branch_piece.Goals as goal

pub returns : goal.returns
returns c =
    let s = setting_view c.args.setting in let a = around_view c.args.around.now in let b = c.args.branch.now in let t = c.in_ok-effects in
    let e = IfOk-at_ok _ t.ensures.first c.evaluate_alone-evaluated.ensures in
    let x = IfOk-at_ok _ (IfOk-at_ok _ t.ensures.second c.both-todos.ensures.first) c.part_todo.ensures in
    let y = IfOk-at_ok _ (IfOk-at_ok _ t.ensures.second c.both-todos.ensures.second) c.part_todo-2.ensures in
    branch_code s a t.effects.items (tree t.condition) (tree c.get-condition.result.now) b.condition b.place (statement b.statement) (guarded (map branch_parts c.args.rest.now)) (otherwise s a c.args.otherwise)
    (code_of s t.first) (code_of s t.second) (λ f. e f) c.get-condition.ensures (x s) (y s)
