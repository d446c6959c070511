-- What the loop keeps: the test of what is left is the test of all.
use Rattle.std.proofs.Common.{◌≡◌, drop}
use Rattle.pgo_model.specs.ValueText as text
use Rattle.pgo_text.proofs.names.has_letter.Given as goal

abbrev pub invariant-loop-b : goal.invariant-loop-b
invariant-loop-b l = text.has_letter l.word ≡ text.has_letter (drop l.b-index l.word)
