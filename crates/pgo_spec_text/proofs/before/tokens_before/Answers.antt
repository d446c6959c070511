-- The tokens before the fault, by the line of MODULE.
use Rattle.std.proofs.Common.{◌<◌, List, None, refl, sym, subst}
use Rattle.std.proofs.lemmas.List.Elements.{All-nil}
use Rattle.pgo_lexer.specs.declared.token.Lexeme.{Lexeme}
use Rattle.pgo_lexer.specs.Prefixes.{AreCounted, IsMarkedTo}
use Rattle.pgo_spec_text.proofs.Prefixed.{no_line_by, line_of}
use Rattle.pgo_spec_text.proofs.before.tokens_before.Goals as goal

pub returns-in_ok-marked_before-in-None-clause-tokens :
    goal.returns-in_ok-marked_before-in-None-clause-tokens
returns-in_ok-marked_before-in-None-clause-tokens c =
    let b = c.in_ok-marked_before-in-None.field-0 in
    let P : List Lexeme → Type 0 = λ ts. AreCounted ts → IsMarkedTo c.args.fault ts b in
    no_line_by c.args.text.now c.args.fault (record { header = b; algorithm = None }) (sym c.in-None.ensures.value)
    (subst P c.new.ensures c.in_ok-marked_before-in-None.ensures.marked (All-nil (λ (t : Lexeme). t.column < 18446744073709551615))) refl

pub returns-in-Some-clause-tokens : goal.returns-in-Some-clause-tokens
returns-in-Some-clause-tokens c =
    line_of c.args.text.now c.in-Some.rest.now c.saturating_sub.result c.args.fault c.from_module.result (sym c.in-Some.ensures.value) (sym c.saturating_sub.ensures) c.from_module.ensures.tokens
