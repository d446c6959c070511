-- What the loop keeps: what is left decides as the whole does.
use Rattle.std.proofs.Common.{◌≡◌, map, drop}
use Rattle.pgo_model.specs.Names.{is_among}
use Rattle.pgo_scope.proofs.words.is_one_of.Given as goal

abbrev pub invariant-loop-word : goal.invariant-loop-word
invariant-loop-word l = is_among l.name (map (λ w. w.now) l.words) ≡ is_among l.name (map (λ w. w.now) (drop l.word-index l.words))
