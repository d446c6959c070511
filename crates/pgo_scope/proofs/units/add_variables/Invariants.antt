-- What the loop keeps: what is made and what is left are the whole.
use Rattle.std.proofs.Common.{◌≡◌, ◌++◌, drop}
use Rattle.pgo_uses.specs.Tables.{variable_rows}
use Rattle.pgo_scope.proofs.units.add_variables.Given as goal

abbrev pub invariant-loop-d : goal.invariant-loop-d
invariant-loop-d l = l.names ++ variable_rows (drop l.d-index l.list) ≡ l.initial.names ++ variable_rows l.list
