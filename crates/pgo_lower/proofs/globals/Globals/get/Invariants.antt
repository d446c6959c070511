use Rattle.std.proofs.Common.{drop}
use Rattle.pgo_lower.specs.Globals.{AreRight}
use Rattle.pgo_lower.proofs.globals.Globals.get.Given as goal

abbrev pub invariant-loop-row : goal.invariant-loop-row
invariant-loop-row l = AreRight l.self.bound.now (drop l.row-index l.row-items)
