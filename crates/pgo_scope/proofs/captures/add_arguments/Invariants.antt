-- What the loop keeps: what is noted and what is left are the whole.
use Rattle.std.proofs.Common.{◌≡◌, map, drop}
use Rattle.pgo_base.specs.ExprView.{tree}
use Rattle.pgo_base.specs.Lookup.{Name}
use Rattle.pgo_scope.specs.declared.binders.Binders.{Binders}
use Rattle.pgo_scope.specs.Binders.{some_binds, is_handed}
use Rattle.pgo_scope.specs.Twice.{handed_on}
use Rattle.pgo_scope.proofs.captures.add_arguments.Given as goal

abbrev pub invariant-loop-i : goal.invariant-loop-i
invariant-loop-i l = (b : Binders) (p : Name) (x : Name) → handed_on (is_handed b l.found p x) (map (some_binds b) (drop l.i l.captures.handed.items)) l.around p (map tree (drop l.i l.args)) x ≡ handed_on (is_handed b l.initial.found p x) (map (some_binds b) l.captures.handed.items) l.around p (map tree l.args) x
