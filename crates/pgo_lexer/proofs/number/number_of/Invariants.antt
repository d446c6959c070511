-- What the loop keeps: the digits that are left give the same, and no value is too large.
use Rattle.std.proofs.Common.{◌≡◌, ◌≤◌, drop}
use Rattle.pgo_lexer.specs.Lexemes.{largest}
use Rattle.pgo_lexer.specs.Pieces.{number_from}
use Rattle.pgo_lexer.proofs.number.number_of.Given as goal

abbrev pub invariant-loop-b : goal.invariant-loop-b
invariant-loop-b l = (number_from 0 l.digits ≡ number_from l.value (drop l.b-index l.digits)) × (l.value ≤ largest)
