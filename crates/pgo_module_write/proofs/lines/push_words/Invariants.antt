use Rattle.std.proofs.Common.{◌≡◌, ◌++◌, drop, map}
use Rattle.pgo_model.specs.ModuleText.{flatten}
use Rattle.pgo_module_write.proofs.lines.push_words.Given as goal

abbrev pub invariant-loop-word : goal.invariant-loop-word
invariant-loop-word l = l.bytes.items ++ flatten (map (λ w. w.now) (drop l.word-index l.words)) ≡ l.initial.bytes.items ++ flatten (map (λ w. w.now) l.words)
