-- The leaf has come to its next event.
use Rattle.std.proofs.Common.{subst}
use Rattle.std.proofs.lemmas.Result.{IfOk-weaker}
use Rattle.pgo_workers.specs.Walk.{Walk}
use Rattle.pgo_places.specs.PlaceWalk.{walk_in}
use Rattle.pgo_places.specs.Turned.{Turns}
use Rattle.pgo_places.proofs.Walks.{kept_walk}
use Rattle.pgo_places.proofs.attempt.tried.Goals as goal

pub returns-clause-turns : goal.returns-clause-turns
returns-clause-turns c =
    let p = c.args.program.now in let q = c.args.attempt.now in
    IfOk-weaker c.turn.result (λ t. Turns t (walk_in p (record q { place = c.next_event.new.place })) (walk_in p c.turn.new.attempt))
    (λ t. Turns t (walk_in p q) (walk_in p c.turn.new.attempt))
    (λ t h. subst (λ (w : Walk). Turns t w (walk_in p c.turn.new.attempt)) (kept_walk p q.place c.next_event.new.place q.start q.left c.in_ok-event.ensures.kept c.in_ok-event.ensures.same) h)
    c.turn.ensures.turns
