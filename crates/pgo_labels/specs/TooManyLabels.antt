-- Rule 7: an archetype has more than 256 labels.
use Rattle.std.specs.Prelude.{nat_lt, if◌then◌else◌, List, [], ◌∷◌, length}
use Rattle.pgo_syntax.specs.declared.archetype.Archetype.{Archetype}
use Rattle.pgo_labels.specs.declared.errors.LabelError.TheVariants.{TooManyLabels}
use Rattle.pgo_labels.specs.declared.finding.Finding.{Finding}
use Rattle.pgo_labels.specs.Labels.{labels}
use Rattle.pgo_labels.specs.Findings.{found_at}

-- there are more than 256 labels
abbrev pub too_many_labels : Archetype → List Finding
too_many_labels a = if nat_lt 256 (length (labels a)) then found_at a.name.place (TooManyLabels a.name.name) ∷ [] else []
