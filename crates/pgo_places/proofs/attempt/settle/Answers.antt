-- A leaf that is blocked, and the last one.
use Rattle.std.proofs.Common.{◌≡◌, refl, ap, sym, ◌∙◌, subst}
use Rattle.pgo_workers.specs.Walk.{settled, goes_back, Again}
use Rattle.pgo_places.specs.PlaceWalk.{walk_in}
use Rattle.pgo_places.specs.Turned.{Turns, IsFewer}
use Rattle.pgo_places.proofs.Walks.{either_true, settled_last, back_last}
use Rattle.pgo_places.proofs.attempt.settle.Goals as goal

pub loop-last-init : goal.loop-last-init
loop-last-init c = (refl, refl)

pub loop-last-preserved : goal.loop-last-preserved
loop-last-preserved c =
    let p = c.args.program.now in let old = walk_in p c.loop-last.attempt in let new = walk_in p c.tried.new.attempt in
    let h : old ≡ Again new = subst (λ o. Turns o old new) c.in_default.is c.in_ok-last.ensures.turns in
    (sym (ap settled h) ∙ c.loop-last.invariant.0, sym (either_true c.loop-last.back (goes_back old) (ap goes_back h)) ∙ c.loop-last.invariant.1)

pub loop-last-smaller : goal.loop-last-smaller
loop-last-smaller c = subst (λ o. IsFewer o c.loop-last.attempt.left c.tried.new.attempt.left) c.in_default.is c.in_ok-last.ensures.fewer

pub returns-in-Some-clause-walk : goal.returns-in-Some-clause-walk
returns-in-Some-clause-walk c =
    let p = c.args.program.now in let old = walk_in p c.loop-last.attempt in let new = walk_in p c.tried.new.attempt in
    settled_last c.in-Some.last old new (subst (λ o. Turns o old new) c.in-Some.is c.in_ok-last.ensures.turns) ∙ c.loop-last.invariant.0

pub returns-in-Some-clause-back : goal.returns-in-Some-clause-back
returns-in-Some-clause-back c =
    let p = c.args.program.now in let old = walk_in p c.loop-last.attempt in let new = walk_in p c.tried.new.attempt in
    c.either.ensures ∙ back_last c.loop-last.back c.in-Some.last old new (subst (λ o. Turns o old new) c.in-Some.is c.in_ok-last.ensures.turns) ∙ c.loop-last.invariant.1
