-- The attempt in its box, at an event.
use Rattle.std.proofs.Common.{◌≡◌, Bool, IfOk, subst}
use Rattle.pgo_workers.specs.Walk.{settled, goes_back}
use Rattle.pgo_places.specs.PlaceWalk.{walk_in}
use Rattle.pgo_places.specs.declared.attempt.Attempt.{Attempt}
use Rattle.pgo_places.proofs.program.RunnableSections.settle.Goals as goal

pub returns-clause-walk : goal.returns-clause-walk
returns-clause-walk c =
    let p = c.args.self.now.program in
    subst (λ (q : Attempt). IfOk c.settle.result (λ (b : Bool). walk_in p c.settle.new.attempt ≡ settled (walk_in p q))) c.deref_mut.ensures.value c.settle.ensures.walk

pub returns-clause-back : goal.returns-clause-back
returns-clause-back c =
    let p = c.args.self.now.program in
    subst (λ (q : Attempt). IfOk c.settle.result (λ (b : Bool). b ≡ goes_back (walk_in p q))) c.deref_mut.ensures.value c.settle.ensures.back
