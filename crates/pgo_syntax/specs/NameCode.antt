-- Names with their places as trees of numbers, by which a proof tells them apart.
use Rattle.std.specs.Prelude.{ℕ, List, refl}
use Rattle.std.specs.Coded.{Coded}
use Rattle.pgo_syntax.specs.declared.name.PlacedName.{PlacedName}
use Rattle.pgo_syntax.specs.Packed.{Packed, packed_by, packed×, packed_ℕ, packed_name, packed_list, coded_of}

abbrev pub packed_placed_name : Packed PlacedName
packed_placed_name =
    packed_by (List ℕ × ℕ) (packed× packed_name packed_ℕ) (λ n. (n.name, n.place)) (λ t. record { name = t.0; place = t.1 }) (λ _. refl)

abbrev pub packed_placed_names : Packed (List PlacedName)
packed_placed_names = packed_list packed_placed_name

abbrev pub coded_placed_names : Coded (List PlacedName)
coded_placed_names = coded_of packed_placed_names
