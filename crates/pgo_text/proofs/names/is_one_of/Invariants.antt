-- What the loop keeps: the test of what is left is the test of all.
use Rattle.std.proofs.Common.{◌≡◌, map, drop}
use Rattle.pgo_model.specs.ValueText as text
use Rattle.pgo_text.proofs.names.is_one_of.Given as goal

abbrev pub invariant-loop-w : goal.invariant-loop-w
invariant-loop-w l =
    text.is_one_of l.word (map (λ w. w.now) l.words) ≡ text.is_one_of l.word (map (λ w. w.now) (drop l.w-index l.words))
