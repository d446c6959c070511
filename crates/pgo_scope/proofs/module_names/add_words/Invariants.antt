-- What the loop keeps: what is made and what is left are the whole.
use Rattle.std.proofs.Common.{◌≡◌, ◌++◌, map, drop}
use Rattle.pgo_scope.specs.Clash.{fixed_module_names}
use Rattle.pgo_scope.proofs.module_names.add_words.Given as goal

abbrev pub invariant-loop-word : goal.invariant-loop-word
invariant-loop-word l = l.out.items ++ fixed_module_names (map (λ w. w.now) (drop l.word-index l.words)) ≡ l.initial.out.items ++ fixed_module_names (map (λ w. w.now) l.words)
