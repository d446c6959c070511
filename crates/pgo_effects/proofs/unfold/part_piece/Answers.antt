use Rattle.std.proofs.Common.{◌≡◌, ap, sym, ◌∙◌}
use Rattle.std.proofs.lemmas.Result.{IfOk-weaker}
use Rattle.pgo_meaning.specs.Statements.{Setting}
use Rattle.pgo_effects.specs.declared.todo.Part.TheVariants as parts
use Rattle.pgo_effects.specs.Around.{around_view}
use Rattle.pgo_effects.specs.Pieces.{piece_code}
use Rattle.pgo_effects.specs.SettingView.{setting_view}
use Rattle.pgo_effects.specs.Todos.{part_code}
use Rattle.pgo_effects.proofs.unfold.part_piece.Goals as goal

pub returns-in-Statement : goal.returns-in-Statement
returns-in-Statement c =
    let s = setting_view c.args.setting in let a = around_view c.args.around.now in
    IfOk-weaker c.statement_piece.result (λ p. piece_code s p ≡ part_code s a (parts.Statement c.in-Statement.t)) (λ p. piece_code s p ≡ part_code s a c.args.part) (λ p h. h ∙ ap (part_code s a) (sym c.in-Statement.is)) c.statement_piece.ensures

pub returns-in-Order : goal.returns-in-Order
returns-in-Order c =
    let s = setting_view c.args.setting in let a = around_view c.args.around.now in
    IfOk-weaker c.order_piece.result (λ p. piece_code s p ≡ part_code s a (parts.Order c.in-Order.list)) (λ p. piece_code s p ≡ part_code s a c.args.part) (λ p h. h ∙ ap (part_code s a) (sym c.in-Order.is)) c.order_piece.ensures

pub returns-in-Branches : goal.returns-in-Branches
returns-in-Branches c =
    let s = setting_view c.args.setting in let a = around_view c.args.around.now in
    IfOk-weaker c.branches_piece.result (λ p. piece_code s p ≡ part_code s a (parts.Branches c.in-Branches.list c.in-Branches.other)) (λ p. piece_code s p ≡ part_code s a c.args.part) (λ p h. h ∙ ap (part_code s a) (sym c.in-Branches.is)) c.branches_piece.ensures

pub returns-in-Loop : goal.returns-in-Loop
returns-in-Loop c =
    let s = setting_view c.args.setting in let a = around_view c.args.around.now in
    IfOk-weaker c.loop_piece.result (λ p. (s' : Setting) → piece_code s' p ≡ part_code s' a (parts.Loop c.in-Loop.body)) (λ p. piece_code s p ≡ part_code s a c.args.part) (λ p h. h s ∙ ap (part_code s a) (sym c.in-Loop.is)) c.loop_piece.ensures
