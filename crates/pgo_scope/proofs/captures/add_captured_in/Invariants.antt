-- What the loop keeps: what is made and what is left are the whole.
use Rattle.std.proofs.Common.{◌≡◌, ◌++◌, map, drop}
use Rattle.pgo_base.specs.ExprView.{tree}
use Rattle.pgo_scope.specs.Binders.{some_binds}
use Rattle.pgo_scope.specs.Twice.{captured_in}
use Rattle.pgo_scope.proofs.captures.add_captured_in.Given as goal

abbrev pub invariant-loop-i : goal.invariant-loop-i
invariant-loop-i l =
    l.out.items ++ captured_in (map (some_binds l.binders) (drop l.i l.captures.handed.items)) (some_binds l.binders l.captures.own) l.around (map tree (drop l.i l.args))
    ≡ l.initial.out.items ++ captured_in (map (some_binds l.binders) l.captures.handed.items) (some_binds l.binders l.captures.own) l.around (map tree l.args)
