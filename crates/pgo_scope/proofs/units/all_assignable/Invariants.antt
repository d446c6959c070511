-- What the loop keeps: what is made and what is left are the whole.
use Rattle.std.proofs.Common.{◌≡◌, ◌++◌, map, drop}
use Rattle.pgo_scope.specs.UnitRows.{assignable_rows}
use Rattle.pgo_scope.proofs.units.all_assignable.Given as goal

abbrev pub invariant-loop-r : goal.invariant-loop-r
invariant-loop-r l = l.all.items ++ map assignable_rows (drop l.r-index l.list) ≡ map assignable_rows l.list
