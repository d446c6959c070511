-- What the loop keeps: what is noted and what is left are the whole.
use Rattle.std.proofs.Common.{◌≡◌, ℕ, false, ◌&&◌, ◌||◌, drop}
use Rattle.std.specs.Prelude.{nat_eq}
use Rattle.pgo_base.specs.Lookup.{Name}
use Rattle.pgo_scope.specs.Binders.{binds}
use Rattle.pgo_scope.specs.Twice.{is_bound_in}
use Rattle.pgo_scope.proofs.binders.Binders.add_uses.Given as goal

abbrev pub invariant-loop-u : goal.invariant-loop-u
invariant-loop-u l = (i : ℕ) (x : Name) → binds l.self i x || (is_bound_in false (drop l.u-index l.uses) x && nat_eq l.place i) ≡ binds l.initial.self i x || (is_bound_in false l.uses x && nat_eq l.place i)
