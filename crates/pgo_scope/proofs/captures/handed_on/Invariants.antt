-- What the loop keeps: what is noted and what is left are the whole.
use Rattle.std.proofs.Common.{◌≡◌, false, drop}
use Rattle.pgo_base.specs.Lookup.{Name}
use Rattle.pgo_scope.specs.Binders.{is_handed, see_captures}
use Rattle.pgo_scope.specs.Twice.{some_capture}
use Rattle.pgo_scope.proofs.captures.handed_on.Given as goal

abbrev pub invariant-loop-u : goal.invariant-loop-u
invariant-loop-u l = (p : Name) (x : Name) → some_capture (is_handed l.table.binders.now l.found p x) (see_captures l.table) p (drop l.u-index l.uses) x ≡ some_capture false (see_captures l.table) p l.uses x
