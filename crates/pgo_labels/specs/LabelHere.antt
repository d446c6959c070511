-- Rule 2: a label stands where none may: in a `with`, a macro or a mapping macro.
use Rattle.std.specs.Prelude.{List, [], ◌++◌, map, flat_map}
use Rattle.pgo_base.specs.Lookup.{Name}
use Rattle.pgo_syntax.specs.declared.name.PlacedName.{PlacedName}
use Rattle.pgo_syntax.specs.declared.macros.Macro.{Macro}
use Rattle.pgo_syntax.specs.declared.macros.MappingMacro.{MappingMacro}
use Rattle.pgo_syntax.specs.declared.archetype.Archetype.{Archetype}
use Rattle.pgo_syntax.specs.Statement.{Statement, with_in}
use Rattle.pgo_labels.specs.declared.errors.LabelError.TheVariants.{LabelHere}
use Rattle.pgo_labels.specs.declared.finding.Finding.{Finding}
use Rattle.pgo_labels.specs.Inside.{inside, with_inside}
use Rattle.pgo_labels.specs.Labels.{labels_of}
use Rattle.pgo_labels.specs.Findings.{found_at}

-- the labels within a `with`
abbrev pub labels_in_with : Statement → List PlacedName
labels_in_with (with_in p ns s) = labels_of (inside (with_in p ns s))
labels_in_with _ = []

-- the labels of a body where none may stand
abbrev pub labels_here : Name → List PlacedName → List Finding
labels_here owner ls = map (λ l. found_at l.place (LabelHere owner l.name)) ls

-- a label stands in a `with`
abbrev pub label_in_with : Archetype → List Finding
label_in_with a = labels_here a.name.name (flat_map (λ i. labels_in_with i.1) (with_inside a.body))

-- a label stands in a macro
abbrev pub label_in_macro : Macro → List Finding
label_in_macro m = labels_here m.name.name (labels_of (with_inside m.body))

-- a label stands in a mapping macro
abbrev pub label_in_mapping : MappingMacro → List Finding
label_in_mapping m = labels_here m.name.name (labels_of (with_inside m.read) ++ labels_of (with_inside m.write))
