use Rattle.std.proofs.Common.{◌≡◌, drop}
use Rattle.pgo_words.specs.Parts.{are_plain, texts}
use Rattle.pgo_words.proofs.options.are_plain.Given as goal

abbrev pub invariant-loop-word : goal.invariant-loop-word
invariant-loop-word l = are_plain (texts (drop l.word-index l.words)) ≡ are_plain (texts l.words)
