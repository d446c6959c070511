use Rattle.std.proofs.Common.{◌≡◌, drop}
use Rattle.pgo_mpcal_read.specs.ReadingSpec.{is_allowed}
use Rattle.pgo_mpcal_read.specs.Units.{all_are}
use Rattle.pgo_mpcal_read.proofs.allowed.all_allowed.Given as goal

abbrev pub invariant-loop-lexeme : goal.invariant-loop-lexeme
invariant-loop-lexeme l = all_are (is_allowed l.context) l.tokens ≡ all_are (is_allowed l.context) (drop l.lexeme-index l.tokens)
