-- An unmapped parameter is read next.
use Rattle.std.proofs.Common.{sym, subst}
use Rattle.pgo_code.specs.See.{step_of}
use Rattle.pgo_places.specs.Flows.{StandsAt}
use Rattle.pgo_places.specs.PlaceView.{stand_view, fixed_view, attempt_view}
use Rattle.pgo_places.proofs.Standing.{read_stands}
use Rattle.pgo_places.proofs.access.access.Goals as goal

pub returns-in-Some : goal.returns-in-Some
returns-in-Some c =
    let a = attempt_view c.args.frame.bound.now c.args.frame.fixed.now in let k = fixed_view c.args.frame.fixed.now in
    let i = step_of c.args.instruction.now in let s = stand_view c.args.stand.now in
    subst (λ x. StandsAt a k i s x) (sym c.access_to.ensures)
    (read_stands a k i s c.in-Some.u.now.name c.in-Some.u.now.resource c.in-Some.ensures.first.0 c.in-Some.ensures.first.1)
