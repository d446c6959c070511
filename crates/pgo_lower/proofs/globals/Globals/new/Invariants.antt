use Rattle.pgo_lower.specs.Globals.{AreRight}
use Rattle.pgo_lower.proofs.globals.Globals.new.Given as goal

abbrev pub invariant-loop-d : goal.invariant-loop-d
invariant-loop-d l = AreRight l.bound l.rows.items
