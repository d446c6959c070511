-- An own component is assigned.
use Rattle.std.proofs.Common.{ap, sym, ◌∙◌, subst}
use Rattle.std.proofs.lemmas.Result.{IfOk-weaker}
use Rattle.pgo_code.specs.Steps.{Step, Assign, Set}
use Rattle.pgo_code.specs.See.{step_of, evaluation_view}
use Rattle.pgo_places.specs.Flows.{LeadsTo}
use Rattle.pgo_places.specs.PlaceView.{stand_view, fixed_view, attempt_view}
use Rattle.pgo_places.proofs.run.plain.Goals as goal

pub returns-in-Assign-clause-walk : goal.returns-in-Assign-clause-walk
returns-in-Assign-clause-walk c =
    let a = attempt_view c.args.frame.bound.now c.args.frame.fixed.now in let k = fixed_view c.args.frame.fixed.now in let s = stand_view c.args.stand.now in
    IfOk-weaker c.assign.result _ _
    (λ f h. subst (λ (i : Step). LeadsTo a k i s f (stand_view c.assign.new.stand)) (sym (ap step_of c.in-Assign.is ∙ ap (λ t. Assign t c.in-Assign.name) c.own_of.ensures)) (h a))
    c.assign.ensures.walk

pub returns-in-Set-clause-walk : goal.returns-in-Set-clause-walk
returns-in-Set-clause-walk c =
    let a = attempt_view c.args.frame.bound.now c.args.frame.fixed.now in let k = fixed_view c.args.frame.fixed.now in let s = stand_view c.args.stand.now in
    let e = evaluation_view c.in-Set.value in
    IfOk-weaker c.assign_ready.result _ _
    (λ f h. subst (λ (i : Step). LeadsTo a k i s f (stand_view c.assign_ready.new.stand)) (sym (ap step_of c.in-Set.is ∙ ap (λ t. Set t e) c.own_of-in-Set.ensures)) (h a e))
    c.assign_ready.ensures.walk
