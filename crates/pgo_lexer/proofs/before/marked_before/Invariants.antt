-- What the loop keeps: the tokens that were taken, and the state behind them.
use Rattle.pgo_lexer.proofs.PrefixMarks.{Taken}
use Rattle.pgo_lexer.proofs.before.marked_before.Given as goal

abbrev pub invariant-loop-lexeme : goal.invariant-loop-lexeme
invariant-loop-lexeme l = Taken l.fn.fault l.fn.tokens l.lexeme-iterator.rest.items l.marker
