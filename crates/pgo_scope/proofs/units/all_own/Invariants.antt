-- What the loop keeps: what is made and what is left are the whole.
use Rattle.std.proofs.Common.{◌≡◌, ◌++◌, map, drop}
use Rattle.pgo_scope.specs.UnitRows.{own_rows}
use Rattle.pgo_scope.proofs.units.all_own.Given as goal

abbrev pub invariant-loop-r : goal.invariant-loop-r
invariant-loop-r l = l.all.items ++ map own_rows (drop l.r-index l.list) ≡ map own_rows l.list
