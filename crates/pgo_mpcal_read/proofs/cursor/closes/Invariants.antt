use Rattle.std.proofs.Common.{◌≡◌, false, drop}
use Rattle.pgo_mpcal_read.specs.Elements as elements
use Rattle.pgo_mpcal_read.proofs.cursor.closes.Given as goal

abbrev pub invariant-loop-lexeme : goal.invariant-loop-lexeme
invariant-loop-lexeme l = elements.closes_from false l.tokens ≡ elements.closes_from l.closed (drop l.lexeme-index l.tokens)
