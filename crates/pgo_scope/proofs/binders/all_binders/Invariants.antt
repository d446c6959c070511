-- What the loop keeps: the macros before the next bind what is noted.
use Rattle.std.proofs.Common.{◌≡◌, ℕ, ◌&&◌}
use Rattle.std.specs.Prelude.{nat_lt}
use Rattle.pgo_base.specs.Lookup.{Name}
use Rattle.pgo_scope.specs.Binders.{binds, bound_at}
use Rattle.pgo_scope.proofs.binders.all_binders.Given as goal

abbrev pub invariant-loop-i : goal.invariant-loop-i
invariant-loop-i l = (j : ℕ) (x : Name) → binds l.binders j x ≡ nat_lt j l.i && bound_at l.list j x
