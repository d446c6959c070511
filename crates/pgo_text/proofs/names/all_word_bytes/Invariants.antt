-- What the loop keeps: the test of what is left is the test of all.
use Rattle.std.proofs.Common.{◌≡◌, drop}
use Rattle.pgo_model.specs.ValueText as text
use Rattle.pgo_text.proofs.names.all_word_bytes.Given as goal

abbrev pub invariant-loop-b : goal.invariant-loop-b
invariant-loop-b l = text.all_word_bytes l.word ≡ text.all_word_bytes (drop l.b-index l.word)
