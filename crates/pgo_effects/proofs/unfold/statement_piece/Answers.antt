use Rattle.std.proofs.Common.{◌≡◌, ℕ, ap, sym, ◌∙◌, map}
use Rattle.std.proofs.lemmas.Result.{IfOk-weaker}
use Rattle.pgo_base.specs.ExprView.{tree}
use Rattle.pgo_syntax.specs.Statement.{while_do, with_in, call_macro, guarded, labeled, statements}
use Rattle.pgo_syntax.specs.StatementView.{statement, branch_parts, labeled_pair}
use Rattle.pgo_sections.specs.Access.{evaluated}
use Rattle.pgo_sections.specs.Code.{Empty, Await, Assert, Print, Either, Goto, Yield}
use Rattle.pgo_meaning.specs.Statements.{Setting, label_of, assignment_code, branches, arms, in_order}
use Rattle.pgo_effects.specs.Around.{around_view, stands_each, stands_among, stands_guarded}
use Rattle.pgo_effects.specs.Pieces.{piece_code}
use Rattle.pgo_effects.specs.Puts.{puts_tree, puts_assignment}
use Rattle.pgo_effects.specs.SettingView.{setting_view}
use Rattle.pgo_effects.proofs.StatementLaws.{above, meant, skip_at, assign_at, if_at, if_else_at, while_at, either_at, await_at, print_at, assert_at, yield_at, goto_at, with_same, block_at}
use Rattle.pgo_effects.proofs.unfold.statement_piece.Goals as goal

pub returns-in-Skip : goal.returns-in-Skip
returns-in-Skip c =
    let s = setting_view c.args.setting in let a = around_view c.args.around.now in let t = statement c.args.t.now in
    skip_at s a (piece_code s c.last_alone.result) t _ (ap statement c.in-Skip.is) (c.last_alone.ensures s)

pub returns-in-Assign : goal.returns-in-Assign
returns-in-Assign c =
    let s = setting_view c.args.setting in let a = around_view c.args.around.now in let t = statement c.args.t.now in
    IfOk-weaker c.assign_piece.result (λ p. piece_code s p ≡ assignment_code s (map (puts_assignment a.layers) c.as_slice.result.now)) (λ p. piece_code s p ≡ meant s a t) (λ p h. assign_at s a (piece_code s p) t _ _ c.as_slice.result.now c.as_slice.ensures (ap statement c.in-Assign.is) h) c.assign_piece.ensures

pub returns-in-If : goal.returns-in-If
returns-in-If c =
    let s = setting_view c.args.setting in let a = around_view c.args.around.now in let t = statement c.args.t.now in
    IfOk-weaker c.branches_piece.result (λ p. piece_code s p ≡ branches s (above s a) (stands_guarded a (guarded (map branch_parts c.as_slice-in-If.result.now))) Empty) (λ p. piece_code s p ≡ meant s a t) (λ p h. if_at s a (piece_code s p) t _ _ (guarded (map branch_parts c.as_slice-in-If.result.now)) (ap guarded c.as_slice-in-If.ensures) (ap statement c.in-If.is) h) c.branches_piece.ensures

pub returns-in-IfElse : goal.returns-in-IfElse
returns-in-IfElse c =
    let s = setting_view c.args.setting in let a = around_view c.args.around.now in let t = statement c.args.t.now in
    IfOk-weaker c.branches_piece-in-IfElse.result (λ p. piece_code s p ≡ branches s (above s a) (stands_guarded a (guarded (map branch_parts c.as_slice-in-IfElse.result.now))) (meant s a (statement c.get.result.now))) (λ p. piece_code s p ≡ meant s a t) (λ p h. if_else_at s a (piece_code s p) t _ _ (guarded (map branch_parts c.as_slice-in-IfElse.result.now)) _ (statement c.get.result.now) (ap guarded c.as_slice-in-IfElse.ensures) c.get.ensures (ap statement c.in-IfElse.is) h) c.branches_piece-in-IfElse.ensures

pub returns-in-While : goal.returns-in-While
returns-in-While c =
    let s = setting_view c.args.setting in let a = around_view c.args.around.now in let t = statement c.args.t.now in
    IfOk-weaker c.while_piece.result (λ p. (n : ℕ) → piece_code s p ≡ meant s a (while_do n (tree c.get-in-While.result.now) (statement c.get-in-While-2.result.now))) (λ p. piece_code s p ≡ meant s a t) (λ p h. while_at s a (piece_code s p) t c.in-While.field-0 _ (tree c.get-in-While.result.now) _ (statement c.get-in-While-2.result.now) c.get-in-While.ensures c.get-in-While-2.ensures (ap statement c.in-While.is) (h c.in-While.field-0)) c.while_piece.ensures

pub returns-in-Either : goal.returns-in-Either
returns-in-Either c =
    let s = setting_view c.args.setting in let a = around_view c.args.around.now in let t = statement c.args.t.now in
    IfOk-weaker c.either_piece.result (λ p. (s' : Setting) → piece_code s' p ≡ Either (arms s' (above s' a) (stands_each a (statements (map statement c.as_slice-in-Either.result.now))))) (λ p. piece_code s p ≡ meant s a t) (λ p h. either_at s a (piece_code s p) t _ _ (statements (map statement c.as_slice-in-Either.result.now)) (ap statements c.as_slice-in-Either.ensures) (ap statement c.in-Either.is) (h s)) c.either_piece.ensures

pub returns-in-With : goal.returns-in-With
returns-in-With c =
    let s = setting_view c.args.setting in let a = around_view c.args.around.now in let t = statement c.args.t.now in
    IfOk-weaker c.with_piece.result (λ p. (n : ℕ) → piece_code s p ≡ meant s a (with_in n c.as_slice-in-With.result.now (statement c.get-in-With.result.now))) (λ p. piece_code s p ≡ meant s a t) (λ p h. with_same s a (piece_code s p) t (with_in c.in-With.field-0 c.as_slice-in-With.result.now (statement c.get-in-With.result.now)) (ap statement c.in-With.is ∙ (λ i. with_in c.in-With.field-0 (sym c.as_slice-in-With.ensures i) (sym c.get-in-With.ensures i))) (h c.in-With.field-0)) c.with_piece.ensures

pub returns-in-Goto : goal.returns-in-Goto
returns-in-Goto c =
    let s = setting_view c.args.setting in let a = around_view c.args.around.now in let t = statement c.args.t.now in
    IfOk-weaker c.goto_piece.result (λ p. (s' : Setting) → piece_code s' p ≡ Goto (label_of s.process c.in-Goto.x.name)) (λ p. piece_code s p ≡ meant s a t) (λ p h. goto_at s a (piece_code s p) t _ c.in-Goto.x (ap statement c.in-Goto.is) (h s)) c.goto_piece.ensures

pub returns-in-Call : goal.returns-in-Call
returns-in-Call c =
    let s = setting_view c.args.setting in let a = around_view c.args.around.now in let t = statement c.args.t.now in
    IfOk-weaker c.call_piece.result (λ p. (s' : Setting) (n : ℕ) → piece_code s' p ≡ meant s' a (call_macro n c.in-Call.m (map tree c.as_slice-in-Call.result.now))) (λ p. piece_code s p ≡ meant s a t) (λ p h. with_same s a (piece_code s p) t (call_macro c.in-Call.field-0 c.in-Call.m (map tree c.as_slice-in-Call.result.now)) (ap statement c.in-Call.is ∙ ap (call_macro c.in-Call.field-0 c.in-Call.m) (sym c.as_slice-in-Call.ensures)) (h s c.in-Call.field-0)) c.call_piece.ensures

pub returns-in-Yield : goal.returns-in-Yield
returns-in-Yield c =
    let s = setting_view c.args.setting in let a = around_view c.args.around.now in let t = statement c.args.t.now in
    IfOk-weaker c.yield_piece.result (λ p. (s' : Setting) → piece_code s' p ≡ Yield (puts_tree a.layers (tree c.get-in-Yield.result.now))) (λ p. piece_code s p ≡ meant s a t) (λ p h. yield_at s a (piece_code s p) t _ _ (tree c.get-in-Yield.result.now) c.get-in-Yield.ensures (ap statement c.in-Yield.is) (h s)) c.yield_piece.ensures

pub returns-in-Block : goal.returns-in-Block
returns-in-Block c =
    let s = setting_view c.args.setting in let a = around_view c.args.around.now in let t = statement c.args.t.now in
    IfOk-weaker c.order_piece.result (λ p. piece_code s p ≡ in_order s (above s a) (stands_among a (labeled (map labeled_pair c.as_slice-in-Block.result.now)))) (λ p. piece_code s p ≡ meant s a t) (λ p h. block_at s a (piece_code s p) t _ _ (labeled (map labeled_pair c.as_slice-in-Block.result.now)) (ap labeled c.as_slice-in-Block.ensures) (ap statement c.in-Block.is) h) c.order_piece.ensures

pub returns-in-Await : goal.returns-in-Await
returns-in-Await c =
    let s = setting_view c.args.setting in let a = around_view c.args.around.now in let t = statement c.args.t.now in
    IfOk-weaker c.await_piece.result (λ p. (s' : Setting) → piece_code s' p ≡ evaluated s.mapped (puts_tree a.layers (tree c.get-in-Await.result.now)) 0 (λ e' k. Await e')) (λ p. piece_code s p ≡ meant s a t) (λ p h. await_at s a (piece_code s p) t _ _ (tree c.get-in-Await.result.now) c.get-in-Await.ensures (ap statement c.in-Await.is) (h s)) c.await_piece.ensures

pub returns-in-Print : goal.returns-in-Print
returns-in-Print c =
    let s = setting_view c.args.setting in let a = around_view c.args.around.now in let t = statement c.args.t.now in
    IfOk-weaker c.print_piece.result (λ p. (s' : Setting) → piece_code s' p ≡ evaluated s.mapped (puts_tree a.layers (tree c.get-in-Print.result.now)) 0 (λ e' k. Print e')) (λ p. piece_code s p ≡ meant s a t) (λ p h. print_at s a (piece_code s p) t _ _ (tree c.get-in-Print.result.now) c.get-in-Print.ensures (ap statement c.in-Print.is) (h s)) c.print_piece.ensures

pub returns-in-Assert : goal.returns-in-Assert
returns-in-Assert c =
    let s = setting_view c.args.setting in let a = around_view c.args.around.now in let t = statement c.args.t.now in
    IfOk-weaker c.assert_piece.result (λ p. (s' : Setting) → piece_code s' p ≡ evaluated s.mapped (puts_tree a.layers (tree c.get-in-Assert.result.now)) 0 (λ e' k. Assert e')) (λ p. piece_code s p ≡ meant s a t) (λ p h. assert_at s a (piece_code s p) t _ _ (tree c.get-in-Assert.result.now) c.get-in-Assert.ensures (ap statement c.in-Assert.is) (h s)) c.assert_piece.ensures
