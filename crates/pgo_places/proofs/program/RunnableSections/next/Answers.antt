-- The place in its box.
use Rattle.std.proofs.Common.{◌≡◌, false, OnOk, sym, subst}
use Rattle.pgo_workers.specs.Walk.{goes_back}
use Rattle.pgo_places.specs.PlaceWalk.{walk_in}
use Rattle.pgo_places.specs.declared.attempt.Attempt.{Attempt}
use Rattle.pgo_places.proofs.program.RunnableSections.next.Goals as goal

pub returns-clause-same : goal.returns-clause-same
returns-clause-same c =
    let p = c.args.self.now.program in
    subst (λ (q : Attempt). OnOk c.event_of.result (walk_in p c.event_of.new.attempt ≡ walk_in p q)) c.deref_mut.ensures.value c.event_of.ensures.same

pub event_of-requires : goal.event_of-requires
event_of-requires c =
    let p = c.args.self.now.program in
    subst (λ (q : Attempt). goes_back (walk_in p q) ≡ false) (sym c.deref_mut.ensures.value) c.requires.settled
