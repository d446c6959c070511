-- What is left stays the same, and there are fewer turns.
use Rattle.std.proofs.Common.{◌≡◌}
use Rattle.pgo_places.specs.LeafEvents.{Kept}
use Rattle.pgo_places.specs.PlaceWalk.{leaf_in}
use Rattle.pgo_places.specs.Turns.{turns_at}
use Rattle.pgo_places.proofs.place.next_event.Given as goal

abbrev pub invariant-loop-event : goal.invariant-loop-event
invariant-loop-event l = (leaf_in l.program l.place ≡ leaf_in l.program l.initial.place) × Kept l.initial.place l.place

abbrev pub decreases-loop-event : goal.decreases-loop-event
decreases-loop-event l = turns_at l.place
