-- At its end.
use Rattle.std.proofs.Common.{Some, ap, sym, subst, ◌∙◌}
use Rattle.pgo_places.specs.PlaceWalk.{stop_walk}
use Rattle.pgo_places.specs.Ready.{IsEnded}
use Rattle.pgo_places.specs.Stands.{labelled, limited}
use Rattle.pgo_places.proofs.place.stopped_event.Goals as goal

pub returns-in-Ended-clause-tells : goal.returns-in-Ended-clause-tells
returns-in-Ended-clause-tells c = λ s m. (labelled c.in-Ended.field-0 s.own, s.progress.prints, ap (λ e. limited m (stop_walk e s)) c.in-Ended.is)

pub returns-in-Ended-clause-ready : goal.returns-in-Ended-clause-ready
returns-in-Ended-clause-ready c = λ p q h. subst IsEnded (sym (h ∙ ap Some c.in-Ended.is)) tt
