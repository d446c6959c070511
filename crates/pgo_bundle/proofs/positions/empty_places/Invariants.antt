use Rattle.std.proofs.Common.{◌≡◌}
use Rattle.pgo_bundle.specs.PositionView.{places_view}
use Rattle.pgo_bundle.specs.Positions as spec
use Rattle.pgo_bundle.proofs.positions.empty_places.Given as goal

abbrev pub invariant-loop-turn : goal.invariant-loop-turn
invariant-loop-turn l = places_view l.places ≡ spec.empty_places l._turn
