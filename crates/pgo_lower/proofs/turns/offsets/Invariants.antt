use Rattle.std.proofs.Common.{◌≡◌, ◌++◌, ◌-◌, map, length}
use Rattle.pgo_lower.proofs.turns.offsets.Given as goal

abbrev pub invariant-loop-k : goal.invariant-loop-k
invariant-loop-k l = l.list.items ++ map (λ k. l.all - k) l.left ≡ map (λ k. l.all - k) l.fn.lengths

abbrev pub decreases-loop-k : goal.decreases-loop-k
decreases-loop-k l = length l.left
