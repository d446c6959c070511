-- Names of a `with` as trees of numbers, by which a proof tells them apart.
use Rattle.std.specs.Prelude.{List, refl}
use Rattle.std.specs.Coded.{Coded}
use Rattle.pgo_syntax.specs.declared.name.PlacedName.{PlacedName}
use Rattle.pgo_syntax.specs.declared.binding.Origin.{Origin}
use Rattle.pgo_syntax.specs.declared.binding.WithName.{WithName}
use Rattle.pgo_syntax.specs.Packed.{Packed, packed_by, packed×, packed_list, coded_of}
use Rattle.pgo_syntax.specs.NameCode.{packed_placed_name}
use Rattle.pgo_syntax.specs.OriginCode.{packed_origin}

abbrev pub packed_with_name : Packed WithName
packed_with_name =
    packed_by (PlacedName × Origin) (packed× packed_placed_name packed_origin) (λ w. (w.name, w.origin)) (λ t. record { name = t.0; origin = t.1 }) (λ _. refl)

abbrev pub packed_with_names : Packed (List WithName)
packed_with_names = packed_list packed_with_name

abbrev pub coded_with_names : Coded (List WithName)
coded_with_names = coded_of packed_with_names
