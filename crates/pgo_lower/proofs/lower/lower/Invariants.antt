use Rattle.std.proofs.Common.{take}
use Rattle.pgo_lower.specs.Agree.{AreLowered}
use Rattle.pgo_lower.proofs.lower.lower.Given as goal

abbrev pub invariant-loop-i : goal.invariant-loop-i
invariant-loop-i l = AreLowered l.bound (take l.i-index l.i-items) l.codes.items
