-- What the loop keeps: what is made and what is left are the whole.
use Rattle.std.proofs.Common.{◌≡◌, ◌++◌, drop}
use Rattle.pgo_scope.specs.UnitRows.{ref_rows}
use Rattle.pgo_scope.proofs.units.add_refs.Given as goal

abbrev pub invariant-loop-p : goal.invariant-loop-p
invariant-loop-p l = l.names ++ ref_rows (drop l.p-index l.list) ≡ l.initial.names ++ ref_rows l.list
