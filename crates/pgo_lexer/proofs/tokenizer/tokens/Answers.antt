-- The clauses, from the function on lists.
use Rattle.pgo_lexer.proofs.TokensExact.{result_found, result_only}
use Rattle.pgo_lexer.proofs.tokenizer.tokens.Goals as goal

pub returns-clause-found : goal.returns-clause-found
returns-clause-found c = result_found c.args.limit c.args.text.now c.read.result c.read.ensures.value

pub returns-clause-only : goal.returns-clause-only
returns-clause-only c = result_only c.args.limit c.args.text.now c.read.result c.read.ensures.value
