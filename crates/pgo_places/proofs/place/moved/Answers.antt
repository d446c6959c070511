-- At the next place.
use Rattle.std.proofs.Common.{None, ap, sym, ◌∙◌, subst, arith}
use Rattle.pgo_code.specs.See.{step_of}
use Rattle.pgo_places.specs.declared.flow.Flow.{Flow}
use Rattle.pgo_places.specs.declared.place.Place.{Place}
use Rattle.pgo_places.specs.Flows.{flow_walk}
use Rattle.pgo_places.specs.PlaceView.{stand_view}
use Rattle.pgo_places.specs.Turns.{IsMoved}
use Rattle.pgo_places.proofs.Moves.{moved_on}
use Rattle.pgo_places.proofs.place.moved.Goals as goal

pub returns-in-On-clause-walk : goal.returns-in-On-clause-walk
returns-in-On-clause-walk c = λ a k xs n is len more here.
    let i = step_of c.args.instruction.now in
    moved_on a k xs is i n 0 c.args.place.now c.advance.new.place c.advance.ensures.place c.requires.runs more here (c.advance.ensures.position xs len)
    ∙ sym (ap (λ f. flow_walk a k n i is f (stand_view c.args.place.now.stand)) c.in-On.is)

pub returns-in-Over-clause-walk : goal.returns-in-Over-clause-walk
returns-in-Over-clause-walk c = λ a k xs n is len more here.
    let i = step_of c.args.instruction.now in
    moved_on a k xs is i n c.in-Over.over c.args.place.now c.advance-in-Over.new.place c.advance-in-Over.ensures.place c.requires.runs more here (c.advance-in-Over.ensures.position xs len)
    ∙ sym (ap (λ f. flow_walk a k n i is f (stand_view c.args.place.now.stand)) c.in-Over.is)

pub returns-in-On-clause-moved : goal.returns-in-On-clause-moved
returns-in-On-clause-moved c =
    let e = ap (λ (q : Place). q.left) c.advance.ensures.place in let more = c.requires.more in
    subst (λ (f : Flow). IsMoved f None c.args.place.now.left c.advance.new.place.left) (sym c.in-On.is) (omega (arith, e, more))

pub returns-in-Over-clause-moved : goal.returns-in-Over-clause-moved
returns-in-Over-clause-moved c =
    let e = ap (λ (q : Place). q.left) c.advance-in-Over.ensures.place in let more = c.requires.more in
    subst (λ (f : Flow). IsMoved f None c.args.place.now.left c.advance-in-Over.new.place.left) (sym c.in-Over.is) (omega (arith, e, more))
