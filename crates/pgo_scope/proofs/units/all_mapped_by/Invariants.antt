-- What the loop keeps: what is made and what is left are the whole.
use Rattle.std.proofs.Common.{◌≡◌, ◌++◌, map, drop}
use Rattle.pgo_scope.specs.Targets.{is_named, kinds_with}
use Rattle.pgo_scope.specs.UnitRows.{see_kinds}
use Rattle.pgo_scope.proofs.units.all_mapped_by.Given as goal

abbrev pub invariant-loop-r : goal.invariant-loop-r
invariant-loop-r l = map see_kinds l.all.items ++ map (kinds_with (is_named l.named)) (drop l.r-index l.list) ≡ map (kinds_with (is_named l.named)) l.list
