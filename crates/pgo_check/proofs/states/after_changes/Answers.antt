use Rattle.std.proofs.Common.{◌≡◌, ◌+◌, ◌∷◌, map, drop, ap, sym, ◌∙◌}
use Rattle.std.specs.Prelude.{Some, option_and_then}
use Rattle.std.proofs.lemmas.List.{drop_more}
use Rattle.pgo_model.specs.Log.{after_changes, changed}
use Rattle.pgo_model.specs.LogView.{change_view}
use Rattle.pgo_check.proofs.Kept.{changed_alike}
use Rattle.pgo_check.proofs.Placing.{places_kept}
use Rattle.pgo_check.proofs.states.after_changes.Goals as goal

pub loop-c-preserved : goal.loop-c-preserved
loop-c-preserved c =
    let i = c.loop-c.c-index in
    let changes = c.args.changes.now in
    let one = c.c-item.result in
    let state = c.loop-c.state in
    let next : drop i changes ≡ one ∷ drop (i + 1) changes = drop_more changes i one c.loop-c-test.true ∙ ap (λ q. q ∷ drop (i + 1) changes) (sym c.c-item.is) in
    let is : changed (change_view one) state ≡ Some c.in-Some.next = sym c.in_ok-changed_at.ensures ∙ c.in-Some.is in
    record {
      same = c.loop-c.invariant.same ∙ ap (λ l. after_changes (map change_view l) state) next ∙ ap (option_and_then (after_changes (map change_view (drop (i + 1) changes)))) is;
      placed = places_kept c.args.places.now state c.in-Some.next (changed_alike (change_view one) state c.in-Some.next is) c.loop-c.invariant.placed;
    }
