-- The names in scope as they lie in memory, as a list.
use Rattle.std.specs.Prelude.{◌≡◌, ℕ, List, [], ◌∷◌, map, Option, Some, None, option_map}
use Rattle.std.specs.Borrow.{Bor}
use Rattle.pgo_base.specs.Data.{Data}
use Rattle.pgo_base.specs.LastPlace.{last_place}
use Rattle.pgo_base.specs.Lookup.{Name, nth}
use Rattle.pgo_base.specs.NameMaps.{found}
use Rattle.pgo_base.specs.declared.name_map.NameMap.{NameMap}
use Rattle.pgo_base.specs.View.{data_of}
use Rattle.pgo_base.specs.declared.bindings.Link.{Link}
use Rattle.pgo_base.specs.declared.bindings.Link.TheVariants.{Empty, More, Named, Bound}
use Rattle.pgo_base.specs.declared.bindings.NamedValue.{NamedValue}
use Rattle.pgo_base.specs.declared.bindings.BoundName.{BoundName}

-- each of these before the others, the last one first
abbrev pub onto : {A : Type 0} → List A → List A → List A
onto [] ys = ys
onto (x ∷ xs) ys = onto xs (x ∷ ys)

abbrev pub named_view : NamedValue → List ℕ × Option Data
named_view n = (n.name, option_map data_of n.value)

-- a bound name stands for the member at its place
abbrev pub bound_view : BoundName → List ℕ × Option Data
bound_view b = (b.name, nth b.set b.at)

abbrev pub names_of : Link → List (List ℕ × Option Data)
names_of Empty = []
names_of (More n v e) = (n.now, option_map (λ r. data_of r.now) v) ∷ e.now
names_of (Named n ns p e) = onto (map named_view (n.now ∷ ns.now)) e.now
names_of (Bound b bs p e) = onto (map bound_view (b.now ∷ bs.now)) e.now

abbrev pub value_name : NamedValue → Name
value_name n = n.name

abbrev pub bound_name : BoundName → Name
bound_name b = b.name

-- the map has the place of the last of each name
abbrev pub ArePlaces : {A : Type 0} → (A → Name) → List A → NameMap ℕ → Type 0
ArePlaces f rows places = (x : Name) → found places x ≡ last_place f x rows

-- the same, where there is a map
abbrev pub ArePlacesIfAny : {A : Type 0} → (A → Name) → List A → Option (Bor (NameMap ℕ)) → Type 0
ArePlacesIfAny f rows None = Unit {0}
ArePlacesIfAny f rows (Some p) = ArePlaces f rows p.now

-- a map beside names has their places
abbrev pub HasPlaces : Link → Type 0
HasPlaces Empty = Unit {0}
HasPlaces (More n v e) = Unit {0}
HasPlaces (Named n ns p e) = ArePlacesIfAny value_name (n.now ∷ ns.now) p
HasPlaces (Bound b bs p e) = ArePlacesIfAny bound_name (b.now ∷ bs.now) p
