-- What the loop keeps: what is made and what is left are the whole.
use Rattle.std.proofs.Common.{◌≡◌, ◌++◌, drop}
use Rattle.pgo_scope.specs.UnitRows.{parameter_rows}
use Rattle.pgo_scope.proofs.units.add_parameters.Given as goal

abbrev pub invariant-loop-p : goal.invariant-loop-p
invariant-loop-p l = l.names ++ parameter_rows (drop l.p-index l.list) ≡ l.initial.names ++ parameter_rows l.list
