-- Where the function on lists ends no header, none ends before the fault.
use Rattle.std.proofs.Common.{◌≡◌, ℕ, None, [], length, drop, subst}
use Rattle.pgo_spec_text.specs.Cutting.{header}
use Rattle.pgo_spec_text.specs.SpecText.{most_tokens}
use Rattle.pgo_spec_text.proofs.Prefixed.{never_ends}
use Rattle.pgo_spec_text.proofs.before.from_module.Goals as goal

pub returns-in-Err-Syntax-clause-tokens : goal.returns-in-Err-Syntax-clause-tokens
returns-in-Err-Syntax-clause-tokens c =
    let text = c.args.text.now in
    let start = c.args.start in
    let P : ℕ → Type 0 = λ n. header most_tokens (length text) n start [] (drop start text) ≡ None in
    c.header_alone.ensures.tokens (never_ends text start c.args.fault c.requires.within (subst P c.column_at-column.ensures.value (rw c.in-Err-Syntax.field-0-is at c.in-Err-Syntax.ensures.value)))
