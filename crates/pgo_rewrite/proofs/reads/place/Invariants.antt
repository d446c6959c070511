use Rattle.std.proofs.Common.{◌≡◌, ◌∷◌, replicate}
use Rattle.pgo_rewrite.proofs.reads.place.Given as goal

abbrev pub invariant-loop-i : goal.invariant-loop-i
invariant-loop-i l = l.bytes.items ≡ 35 ∷ replicate l._i 35
