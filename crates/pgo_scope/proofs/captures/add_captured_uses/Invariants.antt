-- What the loop keeps: what is made and what is left are the whole.
use Rattle.std.proofs.Common.{◌≡◌, ◌++◌, drop}
use Rattle.std.specs.Prelude.{flat_map}
use Rattle.pgo_scope.specs.Binders.{some_binds}
use Rattle.pgo_scope.specs.Twice.{captured_use}
use Rattle.pgo_scope.proofs.captures.add_captured_uses.Given as goal

abbrev pub invariant-loop-u : goal.invariant-loop-u
invariant-loop-u l = l.out.items ++ flat_map (captured_use (some_binds l.binders l.places)) (drop l.u-index l.uses) ≡ l.initial.out.items ++ flat_map (captured_use (some_binds l.binders l.places)) l.uses
