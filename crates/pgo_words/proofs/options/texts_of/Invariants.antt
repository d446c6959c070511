use Rattle.std.proofs.Common.{◌≡◌, take}
use Rattle.pgo_words.specs.Parts.{texts}
use Rattle.pgo_words.proofs.options.texts_of.Given as goal

abbrev pub invariant-loop-word : goal.invariant-loop-word
invariant-loop-word l = texts l.found.items ≡ take l.word-index l.words
