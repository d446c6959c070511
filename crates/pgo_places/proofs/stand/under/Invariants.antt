-- The last of the name stands among those that are left.
use Rattle.std.proofs.Common.{◌≡◌, length, map, reverse}
use Rattle.pgo_base.specs.BindingsView.{named_view}
use Rattle.pgo_base.specs.Lookup.{find}
use Rattle.pgo_places.proofs.stand.under.Given as goal

abbrev pub invariant-loop-last : goal.invariant-loop-last
invariant-loop-last l = find l.name (reverse (map named_view l.env)) ≡ find l.name (reverse (map named_view l.left))

abbrev pub decreases-loop-last : goal.decreases-loop-last
decreases-loop-last l = length l.left
