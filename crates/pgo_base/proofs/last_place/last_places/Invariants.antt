-- Under a name stands the place of the last of it so far.
use Rattle.std.proofs.Common.{◌≡◌, take}
use Rattle.pgo_base.specs.LastPlace.{last_place}
use Rattle.pgo_base.specs.Lookup.{Name}
use Rattle.pgo_base.specs.NameMaps.{found}
use Rattle.pgo_base.proofs.last_place.last_places.Given as goal

abbrev pub invariant-loop-i : goal.invariant-loop-i
invariant-loop-i g l = (x : Name) → found l.places x ≡ last_place g.T.Named.name_of x (take l.i l.list)
