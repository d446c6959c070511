-- The places of a state's variables.
use Rattle.std.specs.Prelude.{◌≡◌, ℕ, Option, Some, None}
use Rattle.std.specs.Borrow.{Bor}
use Rattle.pgo_base.specs.Lookup.{Name, Vars}
use Rattle.pgo_base.specs.NameMaps.{found}
use Rattle.pgo_base.specs.declared.name_map.NameMap.{NameMap}
use Rattle.pgo_model.specs.Steps.{place_in}

-- under each name the map has the place of its first variable
abbrev pub ArePlaces : Vars → NameMap ℕ → Type 0
ArePlaces s places = (x : Name) → found places x ≡ place_in x s

-- the same, where there is a map
abbrev pub ArePlacesIfAny : Vars → Option (Bor (NameMap ℕ)) → Type 0
ArePlacesIfAny s None = Unit {0}
ArePlacesIfAny s (Some p) = ArePlaces s p.now
