use Rattle.std.proofs.Common.{◌≡◌, IfOk, map, ap, sym, subst, ◌∙◌, List, []}
use Rattle.std.proofs.lemmas.List.{nil_from_length}
use Rattle.pgo_syntax.specs.Statement.{guarded}
use Rattle.pgo_syntax.specs.StatementView.{branch_parts}
use Rattle.pgo_syntax.specs.declared.statement.Branch.{Branch}
use Rattle.pgo_meaning.specs.Statements.{branches}
use Rattle.pgo_effects.specs.Around.{around_view, stands_guarded}
use Rattle.pgo_effects.specs.Pieces.{piece_code}
use Rattle.pgo_effects.specs.SettingView.{setting_view}
use Rattle.pgo_effects.specs.Todos.{otherwise}
use Rattle.pgo_effects.proofs.BranchLaws.{above, no_branch}
use Rattle.pgo_effects.proofs.branches.branches_piece.Goals as goal

pub returns-in_ok-todo-in-None : goal.returns-in_ok-todo-in-None
returns-in_ok-todo-in-None c =
    let s = setting_view c.args.setting in let a = around_view c.args.around.now in let o = otherwise s a c.args.otherwise in
    let none : c.args.list.now ≡ [] = nil_from_length c.args.list.now c.in-None.ensures.cases in
    c.last_alone.ensures s ∙ c.in_ok-todo-in-None.ensures s
    ∙ sym (ap (λ (l : List Branch). branches s (above s a) (stands_guarded a (guarded (map branch_parts l))) o) none ∙ no_branch s a o)

pub returns-in-Some : goal.returns-in-Some
returns-in-Some c =
    let s = setting_view c.args.setting in let a = around_view c.args.around.now in let o = otherwise s a c.args.otherwise in
    subst (λ (l : List Branch). IfOk c.branch_piece.result (λ p. piece_code s p ≡ branches s (above s a) (stands_guarded a (guarded (map branch_parts l))) o)) (sym c.in-Some.ensures.cases.0) c.branch_piece.ensures
