-- What the loop keeps: the places so far and what is left are the whole.
use Rattle.std.proofs.Common.{◌≡◌, ◌||◌}
use Rattle.pgo_base.specs.Lookup.{Name}
use Rattle.pgo_base.specs.NameMaps.{found}
use Rattle.pgo_scope.specs.declared.binders.Binders.{Binders}
use Rattle.pgo_scope.specs.Binders.{some_binds, some_number}
use Rattle.pgo_scope.proofs.places.add_places.Given as goal

abbrev pub invariant-loop-place : goal.invariant-loop-place
invariant-loop-place l = (b : Binders) (x : Name) → some_number (found b.map x) l.place-iterator || some_binds b l.places x ≡ some_binds b l.more x || some_binds b l.initial.places x
