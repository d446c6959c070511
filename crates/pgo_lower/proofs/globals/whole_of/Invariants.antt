use Rattle.std.proofs.Common.{◌≡◌, drop, map}
use Rattle.std.specs.Prelude.{None}
use Rattle.pgo_model.specs.Core.{number_among}
use Rattle.pgo_meaning.specs.System.{resource_of}
use Rattle.pgo_lower.proofs.globals.whole_of.Given as goal

abbrev pub invariant-loop-r : goal.invariant-loop-r
invariant-loop-r l = number_among (map resource_of l.r-items) (l.g, None) ≡ number_among (map resource_of (drop l.r-index l.r-items)) (l.g, None)
