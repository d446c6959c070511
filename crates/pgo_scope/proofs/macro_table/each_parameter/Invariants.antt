-- What the loop keeps: what is made and what is left are the whole.
use Rattle.std.proofs.Common.{◌≡◌, ◌++◌, map, drop}
use Rattle.pgo_uses.specs.AllUses.{names_of}
use Rattle.pgo_scope.specs.MacroTableView.{see_table, see_usage}
use Rattle.pgo_scope.specs.Usage.{each_parameter}
use Rattle.pgo_scope.proofs.macro_table.each_parameter.Given as goal

abbrev pub invariant-loop-x : goal.invariant-loop-x
invariant-loop-x l = map see_usage l.list.items ++ each_parameter (see_table l.table) l.uses (names_of (drop l.x-index l.names)) ≡ each_parameter (see_table l.table) l.uses (names_of l.names)
