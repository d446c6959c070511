-- What the loop keeps: what is made and what is left are the whole.
use Rattle.std.proofs.Common.{◌≡◌, ◌++◌, drop}
use Rattle.pgo_uses.specs.Tables.{name_rows}
use Rattle.pgo_scope.proofs.units.macro_parameters.Given as goal

abbrev pub invariant-loop-x : goal.invariant-loop-x
invariant-loop-x l = l.names ++ name_rows (drop l.x-index l.list) ≡ name_rows l.list
