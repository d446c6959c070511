-- What the loop keeps: the test of what is left is the test of all.
use Rattle.std.proofs.Common.{◌≡◌, drop}
use Rattle.pgo_model.specs.ValueText.{has_letter}
use Rattle.pgo_lexer.proofs.bytes.has_letter.Given as goal

abbrev pub invariant-loop-b : goal.invariant-loop-b
invariant-loop-b l = has_letter l.word ≡ has_letter (drop l.b-index l.word)
