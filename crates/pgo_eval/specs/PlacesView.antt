-- What is known of the places of bound names.
use Rattle.std.specs.Prelude.{ℕ, List, Option, Some, None}
use Rattle.pgo_base.specs.BindingsView.{bound_name, ArePlaces}
use Rattle.pgo_base.specs.declared.bindings.BoundName.{BoundName}
use Rattle.pgo_base.specs.declared.name_map.NameMap.{NameMap}
use Rattle.pgo_eval.specs.declared.places.Places.{Places}

-- a map, where there is one, has the place of the last of each name
abbrev pub AreKnown : List BoundName → Option (NameMap ℕ) → Type 0
AreKnown bs None = Unit {0}
AreKnown bs (Some p) = ArePlaces bound_name bs p

abbrev pub ArePlacesOf : List BoundName → Places → Type 0
ArePlacesOf bs p = AreKnown bs p.known
