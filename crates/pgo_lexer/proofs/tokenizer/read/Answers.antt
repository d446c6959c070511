use Rattle.pgo_lexer.proofs.TokensExact.{lexed_starts}
use Rattle.pgo_lexer.proofs.tokenizer.read.Goals as goal

pub returns-clause-within : goal.returns-clause-within
returns-clause-within c = c.marked.ensures.within (lexed_starts c.args.limit c.args.text.now c.in_ok-unmarked.unmarked c.in_ok-unmarked.ensures.value)
