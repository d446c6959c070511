-- A turn without an event.
use Rattle.std.proofs.Common.{subst}
use Rattle.pgo_places.specs.Turns.{IsFewer, turns_at}
use Rattle.pgo_places.proofs.place.next_event.Goals as goal

pub loop-event-smaller : goal.loop-event-smaller
loop-event-smaller c = subst (λ o. IsFewer o (turns_at c.loop-event.place) (turns_at c.turn.new.place)) c.in_default.is c.in_ok-event.ensures.fewer
