use Rattle.std.proofs.Common.{◌≡◌, ℕ, ◌∙◌, map, Some, None}
use Rattle.std.proofs.lemmas.Result.{IfOk-weaker}
use Rattle.pgo_base.specs.ExprView.{tree}
use Rattle.pgo_meaning.specs.MacrosPlaced.{handed, walked, put}
use Rattle.pgo_meaning.specs.Statements.{Setting, code}
use Rattle.pgo_syntax.specs.Statement.{call_macro}
use Rattle.pgo_effects.specs.Around.{around_view, stands}
use Rattle.pgo_effects.specs.Called.{called_body}
use Rattle.pgo_effects.specs.Pieces.{piece_code}
use Rattle.pgo_effects.specs.Puts.{puts}
use Rattle.std.proofs.Common.{refl}
use Rattle.pgo_effects.proofs.CallLaws.{above, no_macro, macro_here}
use Rattle.pgo_effects.proofs.calls.call_piece.Goals as goal

pub returns-in-None : goal.returns-in-None
returns-in-None c =
    let a = around_view c.args.around.now in
    λ s n. c.last_alone.ensures s ∙ no_macro s a n c.args.m.now (map tree c.args.list.now) None refl c.in-None.ensures

pub returns-in-Some : goal.returns-in-Some
returns-in-Some c =
    let a = around_view c.args.around.now in let ts = map tree c.args.list.now in let b = called_body c.args.around.now.macros c.in-Some.called in
    IfOk-weaker c.body_piece.result (λ p. (s : Setting) (n : ℕ) → piece_code s p ≡ code s (above s a) (puts a.layers (walked n (put (handed b.parameters ts) b.statement))))
    (λ p. (s : Setting) (n : ℕ) → piece_code s p ≡ code s (above s a) (stands a (call_macro n c.args.m.now ts)))
    (λ p h. λ s n. h s n ∙ macro_here s a n c.args.m.now ts (Some b) b refl c.in-Some.ensures) c.body_piece.ensures
