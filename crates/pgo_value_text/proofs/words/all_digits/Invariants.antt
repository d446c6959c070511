-- What the loop keeps: the test of what is left is the test of all.
use Rattle.std.proofs.Common.{◌≡◌, drop}
use Rattle.pgo_value_text.specs.IsValueText as text
use Rattle.pgo_value_text.proofs.words.all_digits.Given as goal

abbrev pub invariant-loop-b : goal.invariant-loop-b
invariant-loop-b l = text.all_digits l.word ≡ text.all_digits (drop l.b-index l.word)
