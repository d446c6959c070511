-- Rule 5: a label of an archetype is called `Done`.
use Rattle.std.specs.Prelude.{List, map, filter}
use Rattle.pgo_base.specs.Lookup.{same_name}
use Rattle.pgo_syntax.specs.declared.archetype.Archetype.{Archetype}
use Rattle.pgo_labels.specs.declared.errors.LabelError.TheVariants.{ReservedDone}
use Rattle.pgo_labels.specs.declared.finding.Finding.{Finding}
use Rattle.pgo_labels.specs.Labels.{labels, done}
use Rattle.pgo_labels.specs.Findings.{found_at}

-- a label is called `Done`
abbrev pub reserved_done : Archetype → List Finding
reserved_done a = map (λ l. found_at l.place (ReservedDone a.name.name)) (filter (λ l. same_name l.name done) (labels a))
