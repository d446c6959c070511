use Rattle.std.proofs.Common.{map, sym, ap, ◌∙◌, suc, add-one}
use Rattle.std.proofs.lemmas.List.{drop_all}
use Rattle.pgo_syntax.specs.RecordView.{note_view}
use Rattle.pgo_bundle.specs.PositionView.{places_view}
use Rattle.pgo_bundle.specs.Positions.{place_all, empty_places}
use Rattle.pgo_bundle.proofs.PositionLaws.{placed_are}
use Rattle.pgo_bundle.proofs.positions.by_position.Goals as goal

pub returns : goal.returns
unfolding place_all
returns c =
    let ns = map note_view c.args.notes.now in
    let n = c.args.entries in
    let end = drop_all c.loop-n.n-index c.args.notes.now c.loop-n-test.false in
    sym (ap (λ xs. place_all (map note_view xs) (places_view c.loop-n.places)) end) ∙ c.loop-n.invariant ∙ ap (λ k. place_all ns (empty_places k)) (add-one n) ∙ placed_are (suc n) ns
