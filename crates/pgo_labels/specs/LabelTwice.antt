-- Rule 4: an archetype has a label that stands before in it.
use Rattle.std.specs.Prelude.{if◌then◌else◌, List, [], ◌∷◌, ◌++◌, map}
use Rattle.pgo_base.specs.Lookup.{Name}
use Rattle.pgo_model.specs.Names.{is_among}
use Rattle.pgo_syntax.specs.declared.name.PlacedName.{PlacedName}
use Rattle.pgo_syntax.specs.declared.archetype.Archetype.{Archetype}
use Rattle.pgo_labels.specs.declared.errors.LabelError.TheVariants.{LabelTwice}
use Rattle.pgo_labels.specs.declared.finding.Finding.{Finding}
use Rattle.pgo_labels.specs.Labels.{labels}
use Rattle.pgo_labels.specs.Findings.{found_at}

-- of these labels those that stand before too, or whose name is among `before`
abbrev pub repeated : List Name → List PlacedName → List PlacedName
repeated before [] = []
repeated before (l ∷ ls) = (if is_among l.name before then l ∷ [] else []) ++ repeated (l.name ∷ before) ls

-- a label stands twice
abbrev pub label_twice : Archetype → List Finding
label_twice a = map (λ l. found_at l.place (LabelTwice a.name.name l.name)) (repeated [] (labels a))
