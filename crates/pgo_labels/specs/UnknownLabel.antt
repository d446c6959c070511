-- Rule 3: a `goto` names neither a label of its archetype nor `Done`.
use Rattle.std.specs.Prelude.{◌||◌, not, List, [], ◌∷◌, map, flat_map, filter}
use Rattle.pgo_base.specs.Lookup.{same_name}
use Rattle.pgo_model.specs.Names.{is_among}
use Rattle.pgo_syntax.specs.declared.name.PlacedName.{PlacedName}
use Rattle.pgo_syntax.specs.declared.archetype.Archetype.{Archetype}
use Rattle.pgo_syntax.specs.Statement.{Statement, go_to}
use Rattle.pgo_labels.specs.declared.errors.LabelError.TheVariants.{UnknownLabel}
use Rattle.pgo_labels.specs.declared.finding.Finding.{Finding}
use Rattle.pgo_labels.specs.Inside.{Item, with_inside}
use Rattle.pgo_labels.specs.Labels.{labels, done}
use Rattle.pgo_labels.specs.Findings.{found_at}

-- where a statement goes, if it is a `goto`
abbrev pub target : Statement → List PlacedName
target (go_to p l) = l ∷ []
target _ = []

abbrev pub targets_of : List Item → List PlacedName
targets_of is = flat_map (λ i. target i.1) is

-- a `goto` names neither a label of its archetype nor `Done`
abbrev pub unknown_label : Archetype → List Finding
unknown_label a =
    map (λ t. found_at t.place (UnknownLabel a.name.name t.name))
    (filter (λ t. not (is_among t.name (map (λ l. l.name) (labels a)) || same_name t.name done)) (targets_of (with_inside a.body)))
