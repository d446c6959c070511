-- An instruction that stands at an access, or doesn't.
use Rattle.std.proofs.Common.{◌≡◌, suc, ◌-◌, [], ◌∷◌, drop, length, option_map, ap, sym, ◌∙◌, subst, arith}
use Rattle.std.proofs.lemmas.List.{length-map}
use Rattle.std.proofs.lemmas.Result.{IfOk-weaker}
use Rattle.pgo_base.specs.View.{data_of}
use Rattle.pgo_workers.specs.Tried.{LeafTree}
use Rattle.pgo_meaning.specs.System.{resource_of}
use Rattle.pgo_resource.specs.Picked.{attempt_words}
use Rattle.pgo_code.specs.See.{step_of}
use Rattle.pgo_places.specs.Flows.{IsTouchOf, LeadsTo}
use Rattle.pgo_places.specs.LeafEvents.{points_at, LeafTells}
use Rattle.pgo_places.specs.PlaceView.{stand_view, fixed_view, attempt_view}
use Rattle.pgo_places.specs.PlaceWalk.{core_walk, count_of, steps_at}
use Rattle.pgo_places.specs.Stands.{limited, resume}
use Rattle.pgo_places.specs.declared.stand.Fixed as memory
use Rattle.pgo_places.proofs.PlaceLaws.{frame_walk, at_instruction, fails_same, fails_tells, run_leads, some_tells}
use Rattle.pgo_places.specs.Turns.{IsFewer, turns, turns_at}
use Rattle.pgo_places.specs.declared.stand.Stand as memory_stand
use Rattle.pgo_places.proofs.FewerTurns.{fewer_turns}
use Rattle.pgo_places.proofs.Readiness.{some_ready}
use Rattle.pgo_places.proofs.Walks.{on_ok, kept_stopped}
use Rattle.pgo_places.proofs.place.turn_at.Goals as goal

pub returns-in-Of-clause-same : goal.returns-in-Of-clause-same
returns-in-Of-clause-same c =
    let b = c.args.program.now.bound.now in let p = c.args.place.now in
    let a = attempt_view b p.fixed.value in let k = fixed_view p.fixed.value in let xs = steps_at c.args.program.now p in
    let is = drop (suc p.position) xs in
    let touch : IsTouchOf c.in-Of.r (core_walk a k xs p) =
    subst (IsTouchOf c.in-Of.r) (sym (at_instruction a k xs p (step_of c.args.instruction.now) is c.requires.runs c.requires.more c.requires.here)) (subst (λ (x : memory.Fixed). IsTouchOf c.in-Of.r (resume (attempt_view b x) (fixed_view x) (suc (p.left - 1)) (step_of c.args.instruction.now ∷ is) (stand_view p.stand))) c.deref.ensures (c.in-Of.ensures.0 (p.left - 1) is)) in
    let m : length c.as_slice.result.now ≡ count_of b = ap (λ rs. length rs) c.as_slice.ensures ∙ sym (length-map b.resources resource_of) in
    frame_walk c.args.program.now p c.reached.new.place c.reached.ensures.frame
    ∙ ap (λ n. limited n (core_walk a k xs c.reached.new.place)) (sym m) ∙ c.reached.ensures.same a k xs touch ∙ ap (λ n. limited n (core_walk a k xs p)) m

pub returns-in-Of-clause-tells : goal.returns-in-Of-clause-tells
returns-in-Of-clause-tells c =
    let b = c.args.program.now.bound.now in let p = c.args.place.now in
    let a = attempt_view b p.fixed.value in let k = fixed_view p.fixed.value in let xs = steps_at c.args.program.now p in
    let is = drop (suc p.position) xs in
    let touch : IsTouchOf c.in-Of.r (core_walk a k xs p) =
    subst (IsTouchOf c.in-Of.r) (sym (at_instruction a k xs p (step_of c.args.instruction.now) is c.requires.runs c.requires.more c.requires.here)) (subst (λ (x : memory.Fixed). IsTouchOf c.in-Of.r (resume (attempt_view b x) (fixed_view x) (suc (p.left - 1)) (step_of c.args.instruction.now ∷ is) (stand_view p.stand))) c.deref.ensures (c.in-Of.ensures.0 (p.left - 1) is)) in
    let m : length c.as_slice.result.now ≡ count_of b = ap (λ rs. length rs) c.as_slice.ensures ∙ sym (length-map b.resources resource_of) in
    subst (λ (w : LeafTree). LeafTells (points_at c.reached.new.place) w c.reached.result) (sym (frame_walk c.args.program.now p c.reached.new.place c.reached.ensures.frame))
    (subst (λ n. LeafTells (points_at c.reached.new.place) (limited n (core_walk a k xs c.reached.new.place)) c.reached.result) m (c.reached.ensures.tells a k xs touch))

pub returns-in-Nothing-clause-same : goal.returns-in-Nothing-clause-same
returns-in-Nothing-clause-same c =
    let b = c.args.program.now.bound.now in let p = c.args.place.now in
    let a = attempt_view b p.fixed.value in let k = fixed_view p.fixed.value in let xs = steps_at c.args.program.now p in
    let is = drop (suc p.position) xs in
    fails_same c.args.program.now p c.fail.new.place c.fail.ensures.frame c.fail.ensures.same
    (at_instruction a k xs p (step_of c.args.instruction.now) is c.requires.runs c.requires.more c.requires.here
    ∙ ap (λ (x : memory.Fixed). resume (attempt_view b x) (fixed_view x) (suc (p.left - 1)) (step_of c.args.instruction.now ∷ is) (stand_view p.stand)) (sym c.deref.ensures) ∙ c.in-Nothing.ensures (p.left - 1) is)

pub returns-in-Nothing-clause-tells : goal.returns-in-Nothing-clause-tells
returns-in-Nothing-clause-tells c = fails_tells c.args.program.now c.args.place.now c.fail.new.place c.fail.result c.fail.ensures.frame c.fail.ensures.tells

pub returns-in_ok-flow-in-No-clause-same : goal.returns-in_ok-flow-in-No-clause-same
returns-in_ok-flow-in-No-clause-same c =
    let b = c.args.program.now.bound.now in let p = c.args.place.now in
    let a = attempt_view b p.fixed.value in let k = fixed_view p.fixed.value in let xs = steps_at c.args.program.now p in
    let is = drop (suc p.position) xs in let i = step_of c.args.instruction.now in
    let one : p.left ≡ suc (p.left - 1) = (let more = c.requires.more in omega (arith, more)) in
    IfOk-weaker c.moved.result _ _
    (λ o h. run_leads c.args.program.now p c.moved.new.place i c.in_ok-flow-in-No.flow (stand_view c.run.new.stand)
    c.requires.runs c.requires.more c.requires.here c.moved.ensures.frame c.moved.ensures.section c.moved.ensures.fixed
    (subst (λ (x : memory.Fixed). LeadsTo (attempt_view b x) (fixed_view x) i (stand_view p.stand) c.in_ok-flow-in-No.flow (stand_view c.run.new.stand)) c.deref.ensures c.in_ok-flow-in-No.ensures.walk)
    (h a k xs (p.left - 1) is c.requires.count one c.requires.here))
    c.moved.ensures.walk

pub returns-in_ok-flow-in-No-clause-tells : goal.returns-in_ok-flow-in-No-clause-tells
returns-in_ok-flow-in-No-clause-tells c = IfOk-weaker c.moved.result _ _ (λ o h. some_tells c.args.program.now c.moved.new.place o h) c.moved.ensures.tells

pub returns-in-Of-clause-ready : goal.returns-in-Of-clause-ready
returns-in-Of-clause-ready c =
    let b = c.args.program.now.bound.now in let p = c.args.place.now in
    let t = subst (λ (x : memory.Fixed). IsTouchOf c.in-Of.r (resume (attempt_view b x) (fixed_view x) 1 (step_of c.args.instruction.now ∷ []) (stand_view p.stand))) c.deref.ensures (c.in-Of.ensures.0 0 []) in
    c.reached.ensures.ready c.args.program.now (c.requires.runs, c.requires.more, step_of c.args.instruction.now, c.requires.here, (t, c.in-Of.ensures.1))

pub returns-in-Nothing-clause-ready : goal.returns-in-Nothing-clause-ready
returns-in-Nothing-clause-ready c = c.fail.ensures.ready c.args.program.now

pub returns-in_ok-flow-in-No-clause-ready : goal.returns-in_ok-flow-in-No-clause-ready
returns-in_ok-flow-in-No-clause-ready c = IfOk-weaker c.moved.result _ _ (λ o h. some_ready c.args.program.now c.moved.new.place o h) c.moved.ensures.ready

pub returns-in_ok-flow-in-No-clause-fewer : goal.returns-in_ok-flow-in-No-clause-fewer
returns-in_ok-flow-in-No-clause-fewer c =
    let p = c.args.place.now in let q = c.moved.new.place in
    IfOk-weaker c.moved.result _ _
    (λ o h. subst (λ (t : memory_stand.Stand). IsFewer o (turns_at p) (turns q.left (option_map data_of t.value))) (sym c.moved.ensures.stand)
    (fewer_turns c.in_ok-flow-in-No.flow o p.left q.left (option_map data_of p.stand.value) (option_map data_of c.run.new.stand.value) c.in_ok-flow-in-No.ensures.again h))
    c.moved.ensures.moved

pub run-requires-clause-reads : goal.run-requires-clause-reads
run-requires-clause-reads c = c.in-No.ensures.0

pub run-requires-clause-plain : goal.run-requires-clause-plain
run-requires-clause-plain c = c.in-No.ensures.1

pub returns-in-Of-clause-kept : goal.returns-in-Of-clause-kept
returns-in-Of-clause-kept c = kept_stopped c.args.place.now c.reached.new.place c.reached.ensures.frame

pub returns-in-Nothing-clause-kept : goal.returns-in-Nothing-clause-kept
returns-in-Nothing-clause-kept c = kept_stopped c.args.place.now c.fail.new.place c.fail.ensures.frame

pub returns-in_ok-flow-in-No-clause-kept : goal.returns-in_ok-flow-in-No-clause-kept
returns-in_ok-flow-in-No-clause-kept c =
    on_ok c.moved.result _
    (c.moved.ensures.frame, c.moved.ensures.section, c.moved.ensures.fixed, ap (λ (s : memory_stand.Stand). attempt_words s.picks) c.moved.ensures.stand ∙ c.in_ok-flow-in-No.ensures.first)
