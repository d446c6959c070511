-- None of the tokens before has a place.
use Rattle.std.proofs.Common.{◌≡◌, drop}
use Rattle.pgo_lexer.specs.Offsets.{first_offset}
use Rattle.pgo_lexer.proofs.token.first_offset.Given as goal

abbrev pub invariant-loop-lexeme : goal.invariant-loop-lexeme
invariant-loop-lexeme l = first_offset (drop l.lexeme-index l.lexemes) l.end ≡ first_offset l.lexemes l.end
