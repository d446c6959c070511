use Rattle.std.proofs.Common.{◌≡◌, ◌++◌, drop}
use Rattle.pgo_meaning.specs.MacrosPlaced as spec
use Rattle.pgo_effects.proofs.names.unmarked.Given as goal

abbrev pub invariant-loop-b : goal.invariant-loop-b
invariant-loop-b l = l.plain.items ++ spec.unmarked (drop l.b-index l.bytes) ≡ spec.unmarked l.x
