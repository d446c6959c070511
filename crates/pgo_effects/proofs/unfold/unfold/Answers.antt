use Rattle.std.proofs.Common.{◌≡◌, ap, sym, ◌∙◌, option_map}
use Rattle.std.proofs.lemmas.Result.{IfOk-weaker}
use Rattle.pgo_base.specs.Tree.{name}
use Rattle.pgo_model.specs.Written.{done}
use Rattle.pgo_meaning.specs.Statements.{Setting}
use Rattle.pgo_sections.specs.Code.{Goto, Yield, content_name, value_name}
use Rattle.pgo_effects.specs.Around.{around_view, written_label}
use Rattle.pgo_effects.specs.Pieces.{piece_code}
use Rattle.pgo_effects.specs.SettingView.{setting_view}
use Rattle.pgo_effects.specs.Todos.{change_code, code_of, part_code}
use Rattle.pgo_effects.proofs.unfold.unfold.Goals as goal

pub returns-in-Empty : goal.returns-in-Empty
returns-in-Empty c = let s = setting_view c.args.setting in c.last_alone.ensures s ∙ ap (code_of s) (sym c.in-Empty.is)

pub returns-in-Skip : goal.returns-in-Skip
returns-in-Skip c = let s = setting_view c.args.setting in c.last_alone-in-Skip.ensures s ∙ ap (code_of s) (sym c.in-Skip.is)

pub returns-in-End : goal.returns-in-End
returns-in-End c =
    let s = setting_view c.args.setting in
    IfOk-weaker c.end_piece.result (λ p. (s' : Setting) → piece_code s' p ≡ Goto done) (λ p. piece_code s p ≡ code_of s c.args.todo.now) (λ p h. h s ∙ ap (code_of s) (sym c.in-End.is)) c.end_piece.ensures

pub returns-in-Goto : goal.returns-in-Goto
returns-in-Goto c =
    let s = setting_view c.args.setting in
    IfOk-weaker c.jump_piece.result (λ p. (s' : Setting) → piece_code s' p ≡ Goto (written_label s (option_map (λ x. x.now) c.in-Goto.label))) (λ p. piece_code s p ≡ code_of s c.args.todo.now) (λ p h. h s ∙ ap (code_of s) (sym c.in-Goto.is)) c.jump_piece.ensures

pub returns-in-Change : goal.returns-in-Change
returns-in-Change c =
    let s = setting_view c.args.setting in
    IfOk-weaker c.change_piece.result (λ p. (s' : Setting) → piece_code s' p ≡ change_code c.in-Change.change) (λ p. piece_code s p ≡ code_of s c.args.todo.now) (λ p h. h s ∙ ap (code_of s) (sym c.in-Change.is)) c.change_piece.ensures

pub returns-in-Content : goal.returns-in-Content
returns-in-Content c =
    let s = setting_view c.args.setting in
    IfOk-weaker c.yielded_piece.result (λ p. (s' : Setting) → piece_code s' p ≡ Yield (name content_name)) (λ p. piece_code s p ≡ code_of s c.args.todo.now) (λ p h. h s ∙ ap (code_of s) (sym c.in-Content.is)) c.yielded_piece.ensures

pub returns-in-Value : goal.returns-in-Value
returns-in-Value c =
    let s = setting_view c.args.setting in
    IfOk-weaker c.yielded_piece-in-Value.result (λ p. (s' : Setting) → piece_code s' p ≡ Yield (name value_name)) (λ p. piece_code s p ≡ code_of s c.args.todo.now) (λ p h. h s ∙ ap (code_of s) (sym c.in-Value.is)) c.yielded_piece-in-Value.ensures

pub returns-in-Text : goal.returns-in-Text
returns-in-Text c =
    let s = setting_view c.args.setting in
    IfOk-weaker c.part_piece.result (λ p. piece_code s p ≡ part_code s (around_view c.in-Text.around) c.in-Text.part) (λ p. piece_code s p ≡ code_of s c.args.todo.now) (λ p h. h ∙ ap (code_of s) (sym c.in-Text.is)) c.part_piece.ensures
