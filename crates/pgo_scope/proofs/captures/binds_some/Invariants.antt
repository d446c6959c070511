-- What the loop keeps: no name is bound before those that are left.
use Rattle.std.proofs.Common.{◌≡◌, false, drop}
use Rattle.pgo_base.specs.Lookup.{Name}
use Rattle.pgo_scope.specs.Twice.{is_bound_in}
use Rattle.pgo_scope.proofs.captures.binds_some.Given as goal

abbrev pub invariant-loop-u : goal.invariant-loop-u
invariant-loop-u l = (x : Name) → is_bound_in false (drop l.u-index l.uses) x ≡ is_bound_in false l.uses x
