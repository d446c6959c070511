use Rattle.std.proofs.Common.{◌≡◌, ◌++◌, length, map, suc}
use Rattle.pgo_bundle.specs.Noted as spec
use Rattle.pgo_bundle.specs.PositionView.{place_view}
use Rattle.pgo_bundle.specs.View.{logged_entry_view}
use Rattle.pgo_bundle.proofs.noted.placed.Given as goal

abbrev pub invariant-loop-e : goal.invariant-loop-e
invariant-loop-e l =
    map logged_entry_view l.list ++ spec.placed_from (suc (length l.list)) (map place_view l.places) (map logged_entry_view l.e-iterator.rest.items)
    ≡ spec.placed_from 1 (map place_view l.places) (map logged_entry_view l.fn.entries)
