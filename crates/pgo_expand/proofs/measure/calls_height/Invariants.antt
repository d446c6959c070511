use Rattle.std.proofs.Common.{◌≡◌, replicate}
use Rattle.pgo_expand.proofs.measure.calls_height.Given as goal

abbrev pub invariant-loop-k : goal.invariant-loop-k
invariant-loop-k l = l.calls.items ≡ replicate l.k 2
