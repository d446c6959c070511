-- What the loop keeps: the usage so far and what is left are the whole.
use Rattle.std.proofs.Common.{◌≡◌, map, drop}
use Rattle.pgo_base.specs.ExprView.{tree}
use Rattle.pgo_base.specs.Lookup.{Name}
use Rattle.pgo_scope.specs.MacroTableView.{see_usage}
use Rattle.pgo_scope.specs.NameUsage.{usage_of}
use Rattle.pgo_scope.specs.Usage.{call_usage_from}
use Rattle.pgo_scope.proofs.macro_table.add_call.Given as goal

abbrev pub invariant-loop-i : goal.invariant-loop-i
invariant-loop-i l = (p : Name) → call_usage_from (usage_of l.found p) (map see_usage (drop l.i l.params)) l.around p (map tree (drop l.i l.args)) ≡ call_usage_from (usage_of l.initial.found p) (map see_usage l.params) l.around p (map tree l.args)
