-- Where the access leads.
use Rattle.std.proofs.Common.{◌≡◌, suc, ◌-◌, drop, ap, sym, ◌∙◌, subst, arith}
use Rattle.pgo_code.specs.See.{step_of}
use Rattle.pgo_places.specs.PlaceView.{stand_view, fixed_view, attempt_view}
use Rattle.pgo_places.specs.Performs.{Performs}
use Rattle.pgo_places.specs.PlaceWalk.{steps_at}
use Rattle.pgo_places.specs.Ready.{IsAccess}
use Rattle.pgo_places.specs.declared.stand.Fixed as memory
use Rattle.pgo_places.specs.declared.stand.Stand as memory_stand
use Rattle.pgo_resource.specs.Picked.{attempt_words}
use Rattle.pgo_places.proofs.PlaceLaws.{access_leads}
use Rattle.pgo_places.proofs.program.operate_at.Goals as goal

pub returns-clause-on : goal.returns-clause-on
returns-clause-on g c =
    let b = c.args.program.now.bound.now in let p = c.args.place.now in let a = attempt_view b p.fixed.value in let k = fixed_view p.fixed.value in let xs = steps_at c.args.program.now p in
    let one : p.left ≡ suc (p.left - 1) = (let more = c.requires.more in omega (arith, more)) in
    access_leads c.args.program.now p c.moved.new.place (step_of c.args.instruction.now) c.in_ok-flow.flow (stand_view c.perform.new.stand)
    (g.R.Resource.shows c.args.content.now).current (g.R.Resource.shows c.perform.new.content).current
    c.requires.runs c.requires.more c.requires.here c.moved.ensures.frame c.moved.ensures.section c.moved.ensures.fixed
    (subst (λ (x : memory.Fixed). Performs (attempt_view b x) (fixed_view x) (step_of c.args.instruction.now) (stand_view p.stand) c.in_ok-flow.flow (stand_view c.perform.new.stand)
    (g.R.Resource.shows c.args.content.now).current (g.R.Resource.shows c.perform.new.content).current) c.deref.ensures c.in_ok-flow.ensures.performs)
    (c.in_ok-moved.ensures.walk a k xs (p.left - 1) (drop (suc p.position) xs) c.requires.count one c.requires.here)

pub perform-requires : goal.perform-requires
perform-requires g c =
    let b = c.args.program.now.bound.now in let p = c.args.place.now in
    subst (λ (x : memory.Fixed). IsAccess (attempt_view b x) (fixed_view x) c.args.resource (step_of c.args.instruction.now) (stand_view p.stand)) (sym c.deref.ensures) c.requires.access

pub returns-clause-kept : goal.returns-clause-kept
returns-clause-kept g c =
    (c.moved.ensures.frame, c.moved.ensures.section, c.moved.ensures.fixed, ap (λ (s : memory_stand.Stand). attempt_words s.picks) c.moved.ensures.stand ∙ c.in_ok-flow.ensures.first)
