-- Where a place has no instruction left.
use Rattle.std.proofs.Common.{◌≡◌, drop, map, suc, ◌∷◌, [], ap, sym, ◌∙◌, subst, arith}
use Rattle.pgo_workers.specs.Tried.{LeafTree}
use Rattle.pgo_code.specs.See.{step_of}
use Rattle.pgo_places.specs.LeafEvents.{points_at, LeafTells}
use Rattle.pgo_places.specs.PlaceView.{stand_view, fixed_view, attempt_view}
use Rattle.pgo_places.specs.PlaceWalk.{count_of, instructions_in, steps_at}
use Rattle.pgo_places.proofs.PlaceLaws.{fails_same, fails_tells, nothing_left, no_more_left, stopped_walk, drop_all, drop_all_steps, instruction_here}
use Rattle.pgo_places.proofs.Walks.{kept_stopped}
use Rattle.pgo_places.proofs.place.turn.Goals as goal

pub returns-in-Some-clause-tells : goal.returns-in-Some-clause-tells
returns-in-Some-clause-tells c =
    let p = c.args.place.now in
    subst (λ (w : LeafTree). LeafTells (points_at p) w c.stopped_event.result) (sym (stopped_walk c.args.program.now p c.in-Some.stop c.in-Some.is))
    (c.stopped_event.ensures.tells (stand_view p.stand) (count_of c.args.program.now.bound.now))

pub returns-in_default-instructions-clause-same : goal.returns-in_default-instructions-clause-same
returns-in_default-instructions-clause-same c =
    let b = c.args.program.now.bound.now in let p = c.args.place.now in let a = attempt_view b p.fixed.value in let k = fixed_view p.fixed.value in
    let none : instructions_in c.args.program.now.codes.items p.instance p.section ≡ [] =
    ap (λ cs. instructions_in cs p.instance p.section) (sym c.deref.ensures.value) ∙ c.in_default-instructions.ensures in
    fails_same c.args.program.now p c.fail.new.place c.fail.ensures.frame c.fail.ensures.same
    (nothing_left a k (steps_at c.args.program.now p) p c.in_default.is (ap (λ is. drop p.position (map step_of is)) none ∙ drop_all p.position [] (omega arith)))

pub returns-in_default-instructions-clause-tells : goal.returns-in_default-instructions-clause-tells
returns-in_default-instructions-clause-tells c = fails_tells c.args.program.now c.args.place.now c.fail.new.place c.fail.result c.fail.ensures.frame c.fail.ensures.tells

pub returns-then-place-eq0-clause-same : goal.returns-then-place-eq0-clause-same
returns-then-place-eq0-clause-same c =
    let p = c.args.place.now in
    fails_same c.args.program.now p c.fail-then-place-eq0.new.place c.fail-then-place-eq0.ensures.frame c.fail-then-place-eq0.ensures.same
    (no_more_left (attempt_view c.args.program.now.bound.now p.fixed.value) (fixed_view p.fixed.value) (steps_at c.args.program.now p) p c.in_default.is c.if-place-eq0.true)

pub returns-then-place-eq0-clause-tells : goal.returns-then-place-eq0-clause-tells
returns-then-place-eq0-clause-tells c =
    fails_tells c.args.program.now c.args.place.now c.fail-then-place-eq0.new.place c.fail-then-place-eq0.result c.fail-then-place-eq0.ensures.frame c.fail-then-place-eq0.ensures.tells

pub returns-then-place-list-clause-same : goal.returns-then-place-list-clause-same
returns-then-place-list-clause-same c =
    let p = c.args.place.now in
    let list : c.in-Some-instructions.list.now ≡ instructions_in c.args.program.now.codes.items p.instance p.section =
    c.in-Some-instructions.ensures ∙ ap (λ cs. instructions_in cs p.instance p.section) c.deref.ensures.value in
    fails_same c.args.program.now p c.fail-then-place-list.new.place c.fail-then-place-list.ensures.frame c.fail-then-place-list.ensures.same
    (nothing_left (attempt_view c.args.program.now.bound.now p.fixed.value) (fixed_view p.fixed.value) (steps_at c.args.program.now p) p c.in_default.is
    (ap (λ is. drop p.position (map step_of is)) (sym list) ∙ drop_all_steps c.in-Some-instructions.list.now p.position c.if-place-list.true))

pub returns-then-place-list-clause-tells : goal.returns-then-place-list-clause-tells
returns-then-place-list-clause-tells c =
    fails_tells c.args.program.now c.args.place.now c.fail-then-place-list.new.place c.fail-then-place-list.result c.fail-then-place-list.ensures.frame c.fail-then-place-list.ensures.tells

pub turn_at-requires-clause-here : goal.turn_at-requires-clause-here
turn_at-requires-clause-here c =
    let p = c.args.place.now in
    let list : c.in-Some-instructions.list.now ≡ instructions_in c.args.program.now.codes.items p.instance p.section =
    c.in-Some-instructions.ensures ∙ ap (λ cs. instructions_in cs p.instance p.section) c.deref.ensures.value in
    subst (λ is. drop p.position (map step_of is) ≡ step_of c.index-list-place.result ∷ drop (suc p.position) (map step_of is)) list
    (instruction_here c.in-Some-instructions.list.now p.position c.index-list-place.result c.if-place-list.false
    ∙ ap (λ x. step_of x ∷ drop (suc p.position) (map step_of c.in-Some-instructions.list.now)) (sym c.index-list-place.is))

pub returns-in-Some-clause-ready : goal.returns-in-Some-clause-ready
returns-in-Some-clause-ready c = c.stopped_event.ensures.ready c.args.program.now c.args.place.now c.in-Some.is

pub returns-in_default-instructions-clause-ready : goal.returns-in_default-instructions-clause-ready
returns-in_default-instructions-clause-ready c = c.fail.ensures.ready c.args.program.now

pub returns-then-place-eq0-clause-ready : goal.returns-then-place-eq0-clause-ready
returns-then-place-eq0-clause-ready c = c.fail-then-place-eq0.ensures.ready c.args.program.now

pub returns-then-place-list-clause-ready : goal.returns-then-place-list-clause-ready
returns-then-place-list-clause-ready c = c.fail-then-place-list.ensures.ready c.args.program.now

pub returns-in_default-instructions-clause-kept : goal.returns-in_default-instructions-clause-kept
returns-in_default-instructions-clause-kept c = kept_stopped c.args.place.now c.fail.new.place c.fail.ensures.frame

pub returns-then-place-eq0-clause-kept : goal.returns-then-place-eq0-clause-kept
returns-then-place-eq0-clause-kept c = kept_stopped c.args.place.now c.fail-then-place-eq0.new.place c.fail-then-place-eq0.ensures.frame

pub returns-then-place-list-clause-kept : goal.returns-then-place-list-clause-kept
returns-then-place-list-clause-kept c = kept_stopped c.args.place.now c.fail-then-place-list.new.place c.fail-then-place-list.ensures.frame
