-- The instruction at the place, and its access.
use Rattle.std.proofs.Common.{◌≡◌, ◌∷◌, suc, drop, ap, sym, ◌∙◌, subst}
use Rattle.pgo_resource.specs.declared.sections.NextEvent.{NextEvent}
use Rattle.pgo_workers.specs.Tried.{LeafTree}
use Rattle.pgo_code.specs.See.{step_of}
use Rattle.pgo_code.specs.declared.instruction.Instruction.{Instruction}
use Rattle.pgo_places.specs.LeafEvents.{points_at, IsLeafTouch}
use Rattle.pgo_places.specs.PlaceView.{stand_view, fixed_view, attempt_view}
use Rattle.pgo_places.specs.PlaceWalk.{instructions_in, steps_at}
use Rattle.pgo_places.specs.Ready.{IsAccess, IsReady}
use Rattle.pgo_places.proofs.Readiness.{tells_access, no_list, ready_within, ready_here, ready_access}
use Rattle.pgo_places.proofs.Walks.{on_ok_map, kept_then}
use Rattle.pgo_places.proofs.program.operated.Goals as goal

pub told_resource-resource-requires : goal.told_resource-resource-requires
told_resource-resource-requires g c = tells_access (points_at c.next_event.new.place) _ c.in_ok-event.event (subst (λ (w : LeafTree). IsLeafTouch w) (sym c.in_ok-event.ensures.same) c.requires) c.in_ok-event.ensures.tells

pub unreachable-requires : goal.unreachable-requires
unreachable-requires g c =
    let p = c.args.program.now in let q = c.next_event.new.place in
    let r = subst (λ (e : NextEvent). IsReady p q e) c.told_resource-resource.ensures c.in_ok-event.ensures.ready in
    no_list (instructions_in p.codes.items q.instance q.section) q.position r.2 _ (ap (λ cs. instructions_in cs q.instance q.section) (sym c.deref.ensures.value) ∙ c.in_default.ensures) r.3

pub bounds-list-place : goal.bounds-list-place
bounds-list-place g c =
    let p = c.args.program.now in let q = c.next_event.new.place in
    let r = subst (λ (e : NextEvent). IsReady p q e) c.told_resource-resource.ensures c.in_ok-event.ensures.ready in
    let list = subst (λ cs. c.in-Some.list.now ≡ instructions_in cs q.instance q.section) c.deref.ensures.value c.in-Some.ensures in
    ready_within p q c.in-Some.list.now c.told_resource-resource.result list r

pub operate_at-requires-clause-within : goal.operate_at-requires-clause-within
operate_at-requires-clause-within g c =
    let p = c.args.program.now in let q = c.next_event.new.place in
    let r = subst (λ (e : NextEvent). IsReady p q e) c.told_resource-resource.ensures c.in_ok-event.ensures.ready in
    let list = subst (λ cs. c.in-Some.list.now ≡ instructions_in cs q.instance q.section) c.deref.ensures.value c.in-Some.ensures in
    ready_within p q c.in-Some.list.now c.told_resource-resource.result list r

pub operate_at-requires-clause-more : goal.operate_at-requires-clause-more
operate_at-requires-clause-more g c =
    let p = c.args.program.now in let q = c.next_event.new.place in
    (subst (λ (e : NextEvent). IsReady p q e) c.told_resource-resource.ensures c.in_ok-event.ensures.ready).1

pub operate_at-requires-clause-runs : goal.operate_at-requires-clause-runs
operate_at-requires-clause-runs g c =
    let p = c.args.program.now in let q = c.next_event.new.place in
    (subst (λ (e : NextEvent). IsReady p q e) c.told_resource-resource.ensures c.in_ok-event.ensures.ready).0

pub operate_at-requires-clause-here : goal.operate_at-requires-clause-here
operate_at-requires-clause-here g c =
    let p = c.args.program.now in let q = c.next_event.new.place in
    let r = subst (λ (e : NextEvent). IsReady p q e) c.told_resource-resource.ensures c.in_ok-event.ensures.ready in
    let list = subst (λ cs. c.in-Some.list.now ≡ instructions_in cs q.instance q.section) c.deref.ensures.value c.in-Some.ensures in
    subst (λ (i : Instruction). drop q.position (steps_at p q) ≡ step_of i ∷ drop (suc q.position) (steps_at p q)) (sym c.index-list-place.is)
    (ready_here p q c.in-Some.list.now c.told_resource-resource.result c.index-list-place.result list r)

pub operate_at-requires-clause-access : goal.operate_at-requires-clause-access
operate_at-requires-clause-access g c =
    let p = c.args.program.now in let q = c.next_event.new.place in
    let r = subst (λ (e : NextEvent). IsReady p q e) c.told_resource-resource.ensures c.in_ok-event.ensures.ready in
    let list = subst (λ cs. c.in-Some.list.now ≡ instructions_in cs q.instance q.section) c.deref.ensures.value c.in-Some.ensures in
    subst (λ (i : Instruction). IsAccess (attempt_view p.bound.now q.fixed.value) (fixed_view q.fixed.value) c.told_resource-resource.result (step_of i) (stand_view q.stand)) (sym c.index-list-place.is)
    (ready_access p q c.in-Some.list.now c.told_resource-resource.result c.index-list-place.result list r)

pub returns-clause-kept : goal.returns-clause-kept
returns-clause-kept g c =
    on_ok_map c.operate_at.result _ _ (kept_then c.args.place.now c.next_event.new.place c.operate_at.new.place c.in_ok-event.ensures.kept) c.operate_at.ensures.kept
