use Rattle.std.proofs.Common.{[], ◌∷◌, ◌++◌, map, sym, ap, ◌∙◌, add-one}
use Rattle.std.proofs.lemmas.List.{map_push}
use Rattle.pgo_bundle.specs.PositionView.{place_view}
use Rattle.pgo_bundle.specs.Positions.{empty_places}
use Rattle.pgo_bundle.proofs.PositionLaws.{more_empty}
use Rattle.pgo_bundle.proofs.positions.empty_places.Goals as goal

pub loop-turn-preserved : goal.loop-turn-preserved
loop-turn-preserved c =
    let n = c.loop-turn._turn in
    ap (map place_view) c.in_ok-push.ensures.items ∙ map_push place_view c.loop-turn.places.items c.new.result
    ∙ (λ j. c.loop-turn.invariant j ++ place_view (c.new.ensures j) ∷ []) ∙ more_empty n ∙ ap empty_places (sym (add-one n))
