use Rattle.std.proofs.Common.{◌≡◌, ◌≤◌, ◌∷◌, ◌∙◌, ap, subst}
use Rattle.std.specs.List.{All}
use Rattle.std.proofs.lemmas.List.Elements.{All-tail}
use Rattle.pgo_lexer.specs.declared.token.Lexeme.{Lexeme}
use Rattle.pgo_lexer.specs.Marking.{run, run_by}
use Rattle.pgo_lexer.proofs.marker.marked.Goals as goal

pub loop-lexeme-preserved : goal.loop-lexeme-preserved
loop-lexeme-preserved c =
    let P : Lexeme → Type 0 = λ t. t.start ≤ c.args.end in
    let rest = c.next.new.self.rest.items in
    let next : c.loop-lexeme.lexeme-iterator.rest.items ≡ c.in-Some.lexeme ∷ rest = c.in-Some.ensures.steps.0 in
    record {
      marked = c.loop-lexeme.invariant.marked ∙ ap (run c.loop-lexeme.marker) next ∙ ap (λ o. run_by o rest) c.in_ok-push.ensures.value;
      starts = λ all. All-tail P c.in-Some.lexeme rest (subst (All P) next (c.loop-lexeme.invariant.starts all));
    }
