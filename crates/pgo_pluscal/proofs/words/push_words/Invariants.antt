use Rattle.std.proofs.Common.{◌≡◌, ◌++◌, map, drop}
use Rattle.pgo_model.specs.ModuleText.{flatten}
use Rattle.pgo_pluscal.specs.Words.{word_text}
use Rattle.pgo_pluscal.proofs.words.push_words.Given as goal

abbrev pub invariant-loop-word : goal.invariant-loop-word
invariant-loop-word l = l.bytes.items ++ flatten (map word_text (drop l.word-index l.words)) ≡ l.initial.bytes.items ++ flatten (map word_text l.words)
