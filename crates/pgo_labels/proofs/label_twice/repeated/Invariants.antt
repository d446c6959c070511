-- The names noted are those of a list, and what is made and what is left behind that list are the whole.
use Rattle.std.proofs.Common.{◌≡◌, ◌++◌, List, [], drop}
use Rattle.pgo_base.specs.Lookup.{Name}
use Rattle.pgo_model.specs.Names.{is_among}
use Rattle.pgo_base.specs.NameMaps.{has_name}
use Rattle.pgo_labels.specs.Lent.{lent}
use Rattle.pgo_labels.specs.LabelTwice as spec
use Rattle.pgo_labels.proofs.label_twice.repeated.Given as goal

abbrev pub invariant-loop-label : goal.invariant-loop-label
invariant-loop-label l =
    (passed : List Name)
    × ((n : Name) → has_name l.before n ≡ is_among n passed)
    × (lent l.names.items ++ spec.repeated passed (lent (drop l.label-index l.labels)) ≡ spec.repeated [] (lent l.labels))
