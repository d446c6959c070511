-- None of those from here on has the name.
use Rattle.std.proofs.Common.{◌≡◌, ◌≤◌, length, take}
use Rattle.pgo_base.specs.LastPlace.{last_place}
use Rattle.pgo_base.proofs.last_place.last_among.Given as goal

abbrev pub invariant-loop-i : goal.invariant-loop-i
invariant-loop-i g l = (last_place g.T.Named.name_of l.name (take l.i l.list) ≡ last_place g.T.Named.name_of l.name l.list) × (l.i ≤ length l.list)

abbrev pub decreases-loop-i : goal.decreases-loop-i
decreases-loop-i g l = l.i
