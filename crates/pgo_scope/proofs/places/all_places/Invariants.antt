-- What the loop keeps: the places so far and what is left are the whole.
use Rattle.std.proofs.Common.{◌≡◌, drop}
use Rattle.pgo_base.specs.Lookup.{Name}
use Rattle.pgo_scope.specs.declared.binders.Binders.{Binders}
use Rattle.pgo_scope.specs.Binders.{some_binds, some_set_binds}
use Rattle.pgo_scope.proofs.places.all_places.Given as goal

abbrev pub invariant-loop-more : goal.invariant-loop-more
invariant-loop-more l = (b : Binders) (x : Name) → some_set_binds (some_binds b l.places x) b (drop l.more-index l.list) x ≡ some_set_binds (some_binds b l.own x) b l.list x
