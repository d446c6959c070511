use Rattle.std.proofs.Common.{◌≡◌, ◌+◌, map, drop}
use Rattle.pgo_section.specs.Folds.{at_of, place_in_order}
use Rattle.pgo_section.proofs.changes.place_of.Given as goal

abbrev pub invariant-loop-i : goal.invariant-loop-i
invariant-loop-i l = l.i + place_in_order l.resource (map at_of (drop l.i l.values)) ≡ place_in_order l.resource (map at_of l.values)
