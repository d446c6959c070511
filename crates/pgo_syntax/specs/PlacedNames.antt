-- Names with their places.
use Rattle.std.specs.Prelude.{List, map}
use denote.Ref.{Bor}
use Rattle.pgo_base.specs.Lookup.{Name}
use Rattle.pgo_syntax.specs.declared.name.PlacedName.{PlacedName}

-- the names without their places
abbrev pub names_of : List PlacedName → List Name
names_of xs = map (λ x. x.name) xs

-- names that are lent, as the names that they are
abbrev pub lent_names : List (Bor PlacedName) → List PlacedName
lent_names xs = map (λ x. x.now) xs
