-- What the loop keeps: what is made and what is left are the whole.
use Rattle.std.proofs.Common.{◌≡◌, ◌++◌, map, drop}
use Rattle.pgo_base.specs.ExprView.{tree}
use Rattle.pgo_scope.specs.MacroTableView.{see_usage}
use Rattle.pgo_scope.specs.Assigned.{assigned_arguments}
use Rattle.pgo_scope.proofs.assigned.add_arguments.Given as goal

abbrev pub invariant-loop-i : goal.invariant-loop-i
invariant-loop-i l = l.out.items ++ assigned_arguments l.units.spec.now l.u (map see_usage (drop l.i l.params)) (map tree (drop l.i l.args)) ≡ l.initial.out.items ++ assigned_arguments l.units.spec.now l.u (map see_usage l.params) (map tree l.args)
