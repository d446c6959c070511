use Rattle.std.proofs.Common.{◌≡◌, drop}
use Rattle.pgo_definitions.specs.Meant.{meant}
use Rattle.pgo_definitions.proofs.ByValue.{behind}
use Rattle.pgo_definitions.proofs.evaluate.by_values.Given as goal

abbrev pub invariant-loop-d : goal.invariant-loop-d
invariant-loop-d l = meant l.defs ≡ behind (meant l.by_value) (drop l.d-index l.defs)
