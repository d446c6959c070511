use Rattle.std.proofs.Common.{◌≡◌, ◌+◌, drop, map}
use Rattle.pgo_syntax.specs.RecordView.{note_view}
use Rattle.pgo_bundle.specs.PositionView.{places_view}
use Rattle.pgo_bundle.specs.Positions as spec
use Rattle.pgo_bundle.proofs.positions.by_position.Given as goal

abbrev pub invariant-loop-n : goal.invariant-loop-n
invariant-loop-n l = spec.place_all (map note_view (drop l.n-index l.notes)) (places_view l.places) ≡ spec.place_all (map note_view l.notes) (spec.empty_places (l.entries + 1))
