use Rattle.std.proofs.Common.{◌≡◌, map, ap, sym, ◌∙◌, List, []}
use Rattle.std.proofs.lemmas.List.{nil_from_length}
use Rattle.std.proofs.lemmas.Result.{IfOk-weaker}
use Rattle.pgo_syntax.specs.Statement.{labeled}
use Rattle.pgo_syntax.specs.StatementView.{labeled_pair, statement}
use Rattle.pgo_syntax.specs.declared.statement.Labeled.{Labeled}
use Rattle.pgo_sections.specs.Code.{Seq, Goto}
use Rattle.pgo_meaning.specs.Statements.{Setting, code, in_order, label_of}
use Rattle.pgo_effects.specs.Pieces.{piece_code}
use Rattle.pgo_effects.specs.Around.{around_view, stands, stands_among}
use Rattle.pgo_effects.specs.SettingView.{setting_view}
use Rattle.pgo_effects.proofs.BranchLaws.{above, no_order, unlabelled_here, labelled_here}
use Rattle.pgo_effects.proofs.branches.order_piece.Goals as goal

pub returns-in-None : goal.returns-in-None
returns-in-None c =
    let s = setting_view c.args.setting in let a = around_view c.args.around.now in
    let none : c.args.list.now ≡ [] = nil_from_length c.args.list.now c.in-None.ensures.cases in
    c.last_alone.ensures s ∙ sym (ap (λ (l : List Labeled). in_order s (above s a) (stands_among a (labeled (map labeled_pair l)))) none ∙ no_order s a)

pub returns-in-None-label : goal.returns-in-None-label
returns-in-None-label c =
    let s = setting_view c.args.setting in let a = around_view c.args.around.now in let f = c.in-Some.first.now in let r = c.in-Some.rest.now in
    IfOk-weaker c.then_piece.result (λ p. (s' : Setting) → piece_code s' p ≡ Seq (code s' (above s' a) (stands a (statement f.statement))) (in_order s' (above s' a) (stands_among a (labeled (map labeled_pair r))))) (λ p. piece_code s p ≡ in_order s (above s a) (stands_among a (labeled (map labeled_pair c.args.list.now)))) (λ p h. h s ∙ sym (unlabelled_here s a c.args.list.now f r c.in-Some.ensures.cases.0 c.in-None-label.is)) c.then_piece.ensures

pub returns-in-Some-label : goal.returns-in-Some-label
returns-in-Some-label c =
    let s = setting_view c.args.setting in let a = around_view c.args.around.now in let f = c.in-Some.first.now in let r = c.in-Some.rest.now in
    IfOk-weaker c.goto_piece.result (λ p. (s' : Setting) → piece_code s' p ≡ Goto (label_of s.process c.in-Some-label.x.name)) (λ p. piece_code s p ≡ in_order s (above s a) (stands_among a (labeled (map labeled_pair c.args.list.now)))) (λ p h. h s ∙ sym (labelled_here s a c.args.list.now f r c.in-Some-label.x c.in-Some.ensures.cases.0 c.in-Some-label.is)) c.goto_piece.ensures
