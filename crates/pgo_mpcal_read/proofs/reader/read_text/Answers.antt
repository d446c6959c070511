use Rattle.std.proofs.Common.{rules, arith, List, subst}
use Rattle.std.proofs.lemmas.Grind.{common_steps}
use Rattle.pgo_lexer.specs.declared.token.Lexeme.{Lexeme}
use Rattle.pgo_expr_read.specs.Steps.{Makes}
use Rattle.pgo_mpcal_read.specs.ReadingSpec.{spec}
use Rattle.pgo_mpcal_read.proofs.Spelled.{found_text, only_text, only_err}
use Rattle.pgo_mpcal_read.proofs.reader.read_text.Goals as goal

pub returns-in_err-parts-clause-only : goal.returns-in_err-parts-clause-only
returns-in_err-parts-clause-only c = λ s h.
    let e = only_err c.args.text.now _ c.in_err-parts.ensures.only s h in
    first_of (search rules, grind (arith, common_steps))

pub returns-clause-found : goal.returns-clause-found
returns-clause-found c =
    let P : List Lexeme → Type 0 = λ x. Makes (spec x c.as_slice-algorithm.result.now) c.read_parts.result in
    let Q : List Lexeme → Type 0 = λ x. Makes (spec c.in_ok-parts.parts.header x) c.read_parts.result in
    found_text c.args.text.now c.in_ok-parts.parts.header c.in_ok-parts.parts.algorithm c.read_parts.result c.in_ok-parts.ensures.found
    (subst Q c.as_slice-algorithm.ensures (subst P c.as_slice-header.ensures c.read_parts.ensures.value))

pub returns-clause-only : goal.returns-clause-only
returns-clause-only c =
    let P : List Lexeme → Type 0 = λ x. Makes (spec x c.as_slice-algorithm.result.now) c.read_parts.result in
    let Q : List Lexeme → Type 0 = λ x. Makes (spec c.in_ok-parts.parts.header x) c.read_parts.result in
    only_text c.args.text.now c.in_ok-parts.parts.header c.in_ok-parts.parts.algorithm c.read_parts.result c.in_ok-parts.ensures.only
    (subst Q c.as_slice-algorithm.ensures (subst P c.as_slice-header.ensures c.read_parts.ensures.value))
