use Rattle.std.proofs.Common.{◌≡◌, ◌+◌, ◌∷◌, map, drop, length, ap, sym, ◌∙◌}
use Rattle.std.specs.Prelude.{Some, option_and_then}
use Rattle.std.proofs.lemmas.List.{drop_more}
use Rattle.pgo_model.specs.Log.{After, StateAt}
use Rattle.pgo_model.specs.LogView.{entry_view}
use Rattle.pgo_check.proofs.Kept.{after_alike}
use Rattle.pgo_check.proofs.Placing.{places_kept}
use Rattle.pgo_check_par.proofs.parts.state_behind.Goals as goal

pub loop-e-preserved : goal.loop-e-preserved
loop-e-preserved c =
    let i = c.loop-e.e-index in
    let entries = c.args.entries.now in
    let one = c.e-item.result in
    let state = c.loop-e.state in
    let next : drop i entries ≡ one ∷ drop (i + 1) entries = drop_more entries i one c.loop-e-test.true ∙ ap (λ q. q ∷ drop (i + 1) entries) (sym c.e-item.is) in
    let is : After state (entry_view one).change ≡ Some c.in-Some.next = sym c.in_ok-after.ensures ∙ c.in-Some.is in
    let rest = drop (i + 1) entries in
    record {
      same = c.loop-e.invariant.same ∙ ap (λ l. StateAt state (map entry_view l) (length l)) next ∙ ap (option_and_then (λ t. StateAt t (map entry_view rest) (length rest))) is;
      placed = places_kept c.args.places.now state c.in-Some.next (after_alike (entry_view one).change state c.in-Some.next is) c.loop-e.invariant.placed;
    }
