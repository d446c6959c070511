-- A read that is left, or none.
use Rattle.std.proofs.lemmas.Result.{IfOk-weaker}
use Rattle.pgo_code.specs.See.{step_of}
use Rattle.pgo_places.specs.PlaceView.{stand_view, fixed_view, attempt_view}
use Rattle.pgo_places.proofs.Readiness.{read_there}
use Rattle.pgo_places.proofs.perform.perform.Goals as goal

pub returns-in-Some-clause-performs : goal.returns-in-Some-clause-performs
returns-in-Some-clause-performs g c =
    IfOk-weaker c.look.result _ _
    (λ f h. h (attempt_view c.args.frame.bound.now c.args.frame.fixed.now) (step_of c.args.instruction.now) c.in-Some.ensures.first.0 c.in-Some.ensures.first.1)
    c.look.ensures.performs

pub look-requires-clause-there : goal.look-requires-clause-there
look-requires-clause-there g c =
    let a = attempt_view c.args.frame.bound.now c.args.frame.fixed.now in let k = fixed_view c.args.frame.fixed.now in let s = stand_view c.args.stand.now in
    read_there a k c.args.resource (step_of c.args.instruction.now) s c.in-Some.u.now.name c.in-Some.u.now.resource c.in-Some.ensures.first.0 c.in-Some.ensures.first.1 c.requires
