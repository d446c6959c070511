-- Those before fit.
use Rattle.std.proofs.Common.{◌≡◌, map, drop}
use Rattle.pgo_base.specs.Lookup.{Name}
use Rattle.pgo_base.specs.View.{named_data}
use Rattle.pgo_accesses.specs.Accesses.{all_shallow}
use Rattle.pgo_places.specs.Stands.{labelled}
use Rattle.pgo_places.proofs.run.rows_fit.Given as goal

abbrev pub invariant-loop-component : goal.invariant-loop-component
invariant-loop-component l = (x : Name) → all_shallow (labelled x (map named_data (drop l.component-index l.own))) ≡ all_shallow (labelled x (map named_data l.own))
