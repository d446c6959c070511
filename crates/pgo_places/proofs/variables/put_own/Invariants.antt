-- Behind the components up to here, what is left is still to be done.
use Rattle.std.proofs.Common.{◌≡◌, length}
use Rattle.pgo_base.specs.View.{data_of}
use Rattle.pgo_places.specs.Stands.{own_put}
use Rattle.pgo_places.proofs.OwnPuts.{own_behind}
use Rattle.pgo_places.proofs.variables.put_own.Given as goal

abbrev pub invariant-loop-place : goal.invariant-loop-place
invariant-loop-place l = (own_behind l.place l.name (data_of l.value) l.own ≡ own_put l.name (data_of l.value) l.initial.own) × (length l.own ≡ length l.initial.own)
