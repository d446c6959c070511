-- One kind of instruction after the other.
use Rattle.std.proofs.Common.{◌≡◌, [], sym, ap, subst}
use Rattle.pgo_code.specs.Steps.{Set}
use Rattle.pgo_code.specs.See.{step_of, target_view, evaluation_view}
use Rattle.pgo_places.specs.Flows.{StandsAt, evaluation_in, left_of}
use Rattle.pgo_places.specs.PlaceView.{stand_view, fixed_view, attempt_view}
use Rattle.pgo_places.proofs.access.plain_access.Goals as goal

pub returns-in-Assign : goal.returns-in-Assign
returns-in-Assign c =
    let a = attempt_view c.args.frame.bound.now c.args.frame.fixed.now in let k = fixed_view c.args.frame.fixed.now in let s = stand_view c.args.stand.now in
    subst (λ i. StandsAt a k i s c.assign_access.result) (sym (ap step_of c.in-Assign.is)) (c.assign_access.ensures a k)

pub returns-in-Set : goal.returns-in-Set
returns-in-Set c =
    let a = attempt_view c.args.frame.bound.now c.args.frame.fixed.now in let k = fixed_view c.args.frame.fixed.now in let s = stand_view c.args.stand.now in
    let q : step_of c.args.instruction.now ≡ Set (target_view c.in-Set.target) (evaluation_view c.in-Set.value) = ap step_of c.in-Set.is in
    subst (λ i. StandsAt a k i s c.set_access.result) (sym q)
    (c.set_access.ensures a k (evaluation_view c.in-Set.value) (subst (λ i. left_of (evaluation_in i s.value) s ≡ []) q c.requires))

pub returns-in-Read : goal.returns-in-Read
returns-in-Read c =
    let a = attempt_view c.args.frame.bound.now c.args.frame.fixed.now in let k = fixed_view c.args.frame.fixed.now in let s = stand_view c.args.stand.now in
    subst (λ i. StandsAt a k i s c.mapped_access.result) (sym (ap step_of c.in-Read.is)) (c.mapped_access.ensures.read c.in-Read.name)

pub returns-in-Write : goal.returns-in-Write
returns-in-Write c =
    let a = attempt_view c.args.frame.bound.now c.args.frame.fixed.now in let k = fixed_view c.args.frame.fixed.now in let s = stand_view c.args.stand.now in
    subst (λ i. StandsAt a k i s c.mapped_access-in-Write.result) (sym (ap step_of c.in-Write.is)) (c.mapped_access-in-Write.ensures.write c.in-Write.name)
