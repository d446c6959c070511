-- The labels among statements, and the name `Done`.
use Rattle.std.specs.Prelude.{List, option_to_list, flat_map}
pub use Rattle.pgo_model.specs.Written.{done}
use Rattle.pgo_syntax.specs.declared.name.PlacedName.{PlacedName}
use Rattle.pgo_syntax.specs.declared.archetype.Archetype.{Archetype}
use Rattle.pgo_labels.specs.Inside.{Item, with_inside}

abbrev pub labels_of : List Item → List PlacedName
labels_of is = flat_map (λ i. option_to_list i.0) is

abbrev pub labels : Archetype → List PlacedName
labels a = labels_of (with_inside a.body)
