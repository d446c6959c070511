use Rattle.std.proofs.Common.{◌≡◌, ◌++◌, drop}
use Rattle.pgo_measure.specs.NameRows.{name_rows}
use Rattle.pgo_measure.proofs.heights.rows_of_names.Given as goal

abbrev pub invariant-loop-name : goal.invariant-loop-name
invariant-loop-name l = name_rows l.names ≡ l.rows ++ name_rows (drop l.name-index l.names)
