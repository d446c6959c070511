-- What the loop keeps: what is made and what is left are the whole.
use Rattle.std.proofs.Common.{◌≡◌, ◌++◌, map, drop}
use Rattle.pgo_scope.specs.UnitRows.{macro_parameter_rows}
use Rattle.pgo_scope.proofs.units.all_params.Given as goal

abbrev pub invariant-loop-m : goal.invariant-loop-m
invariant-loop-m l = l.all.items ++ map macro_parameter_rows (drop l.m-index l.list) ≡ map macro_parameter_rows l.list
