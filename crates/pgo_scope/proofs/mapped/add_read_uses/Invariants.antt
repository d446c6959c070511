-- What the loop keeps: what is made and what is left are the whole.
use Rattle.std.proofs.Common.{◌≡◌, ◌++◌, drop}
use Rattle.std.specs.Prelude.{flat_map}
use Rattle.pgo_scope.specs.Mapped.{read_use}
use Rattle.pgo_scope.proofs.mapped.add_read_uses.Given as goal

abbrev pub invariant-loop-u : goal.invariant-loop-u
invariant-loop-u l = l.out.items ++ flat_map (read_use l.units.spec.now) (drop l.u-index l.uses) ≡ l.initial.out.items ++ flat_map (read_use l.units.spec.now) l.uses
