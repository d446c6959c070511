-- The tokens of the header begin before the comment with the algorithm.
use Rattle.std.proofs.Common.{rules, ◌≡◌, ℕ, [], Some, IfErr, drop, length, subst, arith}
use Rattle.std.proofs.lemmas.Grind.{common_steps}
use Rattle.pgo_lexer.specs.Offsets.{IsWithin}
use Rattle.pgo_spec_text.specs.SpecText.{most_tokens}
use Rattle.pgo_spec_text.specs.Cutting.{header}
use Rattle.pgo_spec_text.proofs.Starts.{header_starts, within_more}
use Rattle.pgo_spec_text.proofs.parts.from_module.Goals as goal

pub returns-in_err-header-clause-within : goal.returns-in_err-header-clause-within
returns-in_err-header-clause-within c =
    let text = c.args.text.now in
    let start = c.args.start in
    let head = c.in_ok-tokens.field-0 in
    let P : ℕ → Type 0 = λ n. header most_tokens (length text) n start [] (drop start text) ≡ Some head in
    let starts = header_starts text start head c.requires.within (subst P c.column_at-column.ensures.value c.in_ok-tokens.ensures.value) in
    let h : IfErr c.marked.result (IsWithin (length text)) = within_more c.marked.result head.at (length text) c.in_ok-tokens.ensures.inside (c.marked.ensures.within starts) in
    first_of (search rules, grind (arith, common_steps))
