-- What the loop keeps: what is made and what is left are the whole.
use Rattle.std.proofs.Common.{◌≡◌, map, drop}
use Rattle.pgo_scope.specs.MacroTableView.{see_parameters}
use Rattle.pgo_scope.specs.Usage.{macro_table_from, macro_table_by}
use Rattle.pgo_scope.proofs.macro_table.all_parameters.Given as goal

abbrev pub invariant-loop-i : goal.invariant-loop-i
invariant-loop-i l = macro_table_from (l.macros, map see_parameters l.made.items) l.i (drop l.i l.list) ≡ macro_table_by l.macros l.list
