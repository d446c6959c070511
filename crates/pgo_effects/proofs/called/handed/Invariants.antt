use Rattle.std.proofs.Common.{◌≡◌, ◌≤◌, drop, length}
use Rattle.pgo_effects.proofs.Handed.{given}
use Rattle.pgo_effects.proofs.called.handed.Given as goal

abbrev pub invariant-loop-k : goal.invariant-loop-k
invariant-loop-k l = (l.arguments ≡ given (drop l.k l.params) (drop l.k l.list)) × (l.k ≤ length l.params) × (l.k ≤ length l.list)

abbrev pub decreases-loop-k : goal.decreases-loop-k
decreases-loop-k l = l.k
