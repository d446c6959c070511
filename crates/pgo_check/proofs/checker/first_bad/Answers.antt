use Rattle.std.proofs.Common.{◌≡◌, ◌+◌, ◌∙◌, map, subst, sym, arith}
use Rattle.std.proofs.lemmas.List.{length-map}
use Rattle.pgo_base.specs.View.{data_of}
use Rattle.pgo_model.specs.LogView.{entry_view}
use Rattle.pgo_model.specs.ModuleView.{module_view}
use Rattle.pgo_check.proofs.Reached.{IsReached, start_reached, reached_more, first_bad_is, all_steps, entry_at, some_is}
use Rattle.pgo_check.proofs.Kept.{reached_alike, same_variables}
use Rattle.pgo_check.proofs.Placing.{places_kept}
use Rattle.pgo_check.proofs.checker.first_bad.Goals as goal

pub loop-i-init : goal.loop-i-init
loop-i-init c =
    let m = module_view c.args.m.now.module.now in
    let consts = c.args.m.now.consts.now in
    let ids = map data_of c.args.ids.now in
    let l = map entry_view c.args.entries.now in
    record { reached = subst (λ t. IsReached m consts ids c.args.start.now l 0 t) (sym c.in_ok-before.ensures) (start_reached m consts ids c.args.start.now l); same = c.in_ok-behind.ensures }

pub step-requires-clause-fits : goal.step-requires-clause-fits
step-requires-clause-fits c =
    let l = map entry_view c.args.entries.now in
    let alike = reached_alike c.loop-i.i l c.args.start.now c.loop-i.before c.loop-i.invariant.reached.state in
    record {
      sees = c.requires;
      seen = c.defs_in.ensures c.loop-i.before (same_variables c.args.start.now c.loop-i.before alike);
      places = places_kept c.in_ok-places.places c.args.start.now c.loop-i.before alike c.in_ok-places.ensures;
    }

pub follow-requires-clause-placed : goal.follow-requires-clause-placed
follow-requires-clause-placed c =
    let l = map entry_view c.args.entries.now in
    let alike = reached_alike c.loop-i.i l c.args.start.now c.loop-i.before c.loop-i.invariant.reached.state in
    places_kept c.in_ok-places.places c.args.start.now c.loop-i.before alike c.in_ok-places.ensures

pub loop-i-preserved : goal.loop-i-preserved
loop-i-preserved c =
    let m = module_view c.args.m.now.module.now in
    let consts = c.args.m.now.consts.now in
    let ids = map data_of c.args.ids.now in
    let l = map entry_view c.args.entries.now in
    let e = c.index-entries-i.result in
    let here = entry_at c.args.entries.now c.loop-i.i e c.loop-i-test.true c.index-entries-i.is in
    let leads = rw c.in-Some.is at c.in_ok-step.ensures in
    let same : c.in-Some.next ≡ c.in_ok-before-in-Some.before = some_is c.in-Some.next c.in_ok-before-in-Some.before (sym leads.to ∙ c.in_ok-before-in-Some.ensures) in
    record { reached = subst (λ t. IsReached m consts ids c.args.start.now l (c.loop-i.i + 1) t) same (reached_more m consts ids c.args.start.now c.loop-i.before c.in-Some.next l c.loop-i.i (entry_view e) c.loop-i.invariant.reached here leads); same = same }

pub returns-in-None-clause-found : goal.returns-in-None-clause-found
returns-in-None-clause-found c =
    let m = module_view c.args.m.now.module.now in
    let consts = c.args.m.now.consts.now in
    let ids = map data_of c.args.ids.now in
    let l = map entry_view c.args.entries.now in
    let e = c.index-entries-i.result in
    let here = entry_at c.args.entries.now c.loop-i.i e c.loop-i-test.true c.index-entries-i.is in
    first_bad_is m consts ids c.args.start.now c.loop-i.before l c.loop-i.i (entry_view e) c.loop-i.invariant.reached here (rw c.in-None.is at c.in_ok-step.ensures)

pub returns-clause-found : goal.returns-clause-found
returns-clause-found c =
    let m = module_view c.args.m.now.module.now in
    let consts = c.args.m.now.consts.now in
    let ids = map data_of c.args.ids.now in
    let l = map entry_view c.args.entries.now in
    all_steps m consts ids c.args.start.now c.loop-i.before l c.loop-i.i c.loop-i.invariant.reached (omega (arith, length-map c.args.entries.now entry_view))
