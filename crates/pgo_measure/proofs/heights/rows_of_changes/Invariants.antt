use Rattle.std.proofs.Common.{◌≡◌, ◌++◌, drop}
use Rattle.pgo_measure.specs.NameRows.{changed_rows}
use Rattle.pgo_measure.proofs.heights.rows_of_changes.Given as goal

abbrev pub invariant-loop-change : goal.invariant-loop-change
invariant-loop-change l = changed_rows l.changes ≡ l.rows ++ changed_rows (drop l.change-index l.changes)
