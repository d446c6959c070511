-- The tokens of the algorithm begin before what stands behind its comment.
use Rattle.std.proofs.Common.{rules, ◌≡◌, ◌≤◌, ◌∙◌, ℕ, Some, IfErr, drop, length, sym, ap, subst, arith}
use Rattle.std.specs.List.{All}
use Rattle.std.proofs.lemmas.Grind.{common_steps}
use Rattle.pgo_lexer.specs.declared.token.Lexeme.{Lexeme}
use Rattle.pgo_lexer.specs.Offsets.{IsWithin}
use Rattle.pgo_spec_text.specs.Searching.{inside}
use Rattle.pgo_spec_text.proofs.Starts.{algorithm_starts, within_more}
use Rattle.pgo_spec_text.proofs.parts.with_comment.Goals as goal

pub returns-in_err-algorithm-in-Some-clause-within :
    goal.returns-in_err-algorithm-in-Some-clause-within
returns-in_err-algorithm-in-Some-clause-within c =
    let text = c.args.text.now in
    let body = c.in-Some.body.now in
    let behind = c.in-Some.behind.now in
    let there : inside (drop c.args.at text) ≡ Some (body, behind) = ap inside (sym c.skip.ensures.value) ∙ sym c.in-Some.ensures.value in
    let starts = algorithm_starts text body behind c.args.at c.args.used c.in_ok-unmarked-in-Some.unmarked there c.in_ok-unmarked-in-Some.ensures.value in
    let P : ℕ → Type 0 = λ n. All (λ (t : Lexeme). t.start ≤ n) c.in_ok-unmarked-in-Some.unmarked in
    let less : c.saturating_sub.result ≤ length text = omega (arith, c.saturating_sub.ensures) in
    let h : IfErr c.marked.result (IsWithin (length text)) = within_more c.marked.result c.saturating_sub.result (length text) less (c.marked.ensures.within (subst P (sym c.saturating_sub.ensures) starts)) in
    first_of (search rules, grind (arith, common_steps))
