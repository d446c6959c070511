-- What the loop keeps: what is left decides as the whole does.
use Rattle.std.proofs.Common.{◌≡◌, map, drop}
use Rattle.pgo_base.specs.Lookup.{find}
use Rattle.pgo_scope.proofs.words.number_of.Given as goal

abbrev pub invariant-loop-word : goal.invariant-loop-word
invariant-loop-word l = find l.name (map (λ w. (w.0.now, w.1)) l.words) ≡ find l.name (map (λ w. (w.0.now, w.1)) (drop l.word-index l.words))
