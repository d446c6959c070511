-- The first of the label stands among those that are left.
use Rattle.std.proofs.Common.{◌≡◌, map, drop}
use Rattle.pgo_base.specs.Lookup.{find}
use Rattle.pgo_code.specs.See.{section_view}
use Rattle.pgo_places.proofs.start.section_named.Given as goal

abbrev pub invariant-loop-i : goal.invariant-loop-i
invariant-loop-i l = find l.label (map section_view (drop l.i l.sections)) ≡ find l.label (map section_view l.sections)
