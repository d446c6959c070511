use Rattle.std.proofs.Common.{rules, arith, List, subst}
use Rattle.std.proofs.lemmas.Grind.{common_steps}
use Rattle.pgo_base.specs.ExprView.{tree}
use Rattle.pgo_lexer.specs.declared.token.Lexeme.{Lexeme}
use Rattle.pgo_expr_read.specs.Lookahead.{tokens_of}
use Rattle.pgo_expr_read.specs.Reading.{MakesAs, all_plain}
use Rattle.pgo_expr_read.proofs.Exact.{found_text, only_text, only_err}
use Rattle.pgo_expr_read.proofs.reader.read_text.Goals as goal

pub returns-in_err-marked-clause-only : goal.returns-in_err-marked-clause-only
returns-in_err-marked-clause-only c = λ a h.
    let e = only_err c.args.height c.args.text.now _ c.in_err-marked.ensures.only a h in
    first_of (search rules, grind (arith, common_steps))

pub returns-clause-found : goal.returns-clause-found
returns-clause-found c =
    let P : List Lexeme → Type 0 = λ x. MakesAs tree (all_plain c.args.height (tokens_of x)) c.all_plain.result in
    found_text c.args.height c.args.text.now c.in_ok-marked.marked c.all_plain.result c.in_ok-marked.ensures.found (subst P c.as_slice.ensures c.all_plain.ensures)

pub returns-clause-only : goal.returns-clause-only
returns-clause-only c =
    let P : List Lexeme → Type 0 = λ x. MakesAs tree (all_plain c.args.height (tokens_of x)) c.all_plain.result in
    only_text c.args.height c.args.text.now c.in_ok-marked.marked c.all_plain.result c.in_ok-marked.ensures.only (subst P c.as_slice.ensures c.all_plain.ensures)
