-- What the loop keeps: the test of what is left is the test of all.
use Rattle.std.proofs.Common.{◌≡◌, drop}
use Rattle.pgo_model.specs.ValueText.{is_digit}
use Rattle.pgo_lexer.specs.Lexemes.{all_are}
use Rattle.pgo_lexer.proofs.bytes.all_digits.Given as goal

abbrev pub invariant-loop-b : goal.invariant-loop-b
invariant-loop-b l = all_are is_digit l.word ≡ all_are is_digit (drop l.b-index l.word)
