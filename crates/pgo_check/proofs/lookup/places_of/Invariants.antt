use Rattle.std.proofs.Common.{◌≡◌, map, take}
use Rattle.pgo_base.specs.Lookup.{Name}
use Rattle.pgo_base.specs.NameMaps.{found}
use Rattle.pgo_base.specs.View.{named_data}
use Rattle.pgo_model.specs.Steps.{place_in}
use Rattle.pgo_check.proofs.lookup.places_of.Given as goal

abbrev pub invariant-loop-i : goal.invariant-loop-i
invariant-loop-i l = (x : Name) → found l.places x ≡ place_in x (map named_data (take l.i l.list))
