use Rattle.std.proofs.Common.{◌≡◌, ◌++◌, length}
use Rattle.pgo_lower.proofs.turns.in_order.Given as goal

abbrev pub invariant-loop-instruction : goal.invariant-loop-instruction
invariant-loop-instruction l = l.list.items ++ l.left ≡ l.fn.made

abbrev pub decreases-loop-instruction : goal.decreases-loop-instruction
decreases-loop-instruction l = length l.left
