-- What the loop keeps: what is made and what is left are the whole.
use Rattle.std.proofs.Common.{◌≡◌, map, drop}
use Rattle.pgo_scope.specs.Binders.{see_macro_captures}
use Rattle.pgo_scope.specs.Twice.{captures_from, captures_by}
use Rattle.pgo_scope.proofs.captures.all_captures.Given as goal

abbrev pub invariant-loop-i : goal.invariant-loop-i
invariant-loop-i l = captures_from (l.macros, map (see_macro_captures l.binders) l.made.items) l.i (drop l.i l.list) ≡ captures_by l.macros l.list
