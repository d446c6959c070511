use Rattle.std.proofs.Common.{◌≡◌, drop, ◌++◌}
use Rattle.pgo_sections.specs.Expand.{settled}
use Rattle.pgo_walk.proofs.contents.settle.Given as goal

abbrev pub invariant-loop-x : goal.invariant-loop-x
invariant-loop-x l = settled l.variables l.current ≡ l.changes.items ++ settled (drop l.x-index l.variables) l.current
