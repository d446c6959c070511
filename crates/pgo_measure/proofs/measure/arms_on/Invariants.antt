use Rattle.std.proofs.Common.{◌≡◌, ◌+◌, ◌∷◌, List, map, length}
use Rattle.pgo_base.specs.Lookup.{Name}
use Rattle.pgo_pluscal.specs.PartView.{expansions}
use Rattle.pgo_sections.specs.Expansion.{Either}
use Rattle.pgo_walk.specs.Emitted.{left_in}
use Rattle.pgo_measure.specs.Measured.{measured}
use Rattle.pgo_measure.specs.Spots.{shift}
use Rattle.pgo_measure.specs.Pendings.{part}
use Rattle.pgo_measure.specs.PendingView.{parts}
use Rattle.pgo_measure.proofs.Arms.{arms_measured}
use Rattle.pgo_measure.proofs.measure.arms_on.Given as goal

abbrev pub invariant-loop-state : goal.invariant-loop-state
invariant-loop-state l =
    (l.behind ≡ length l.state-iterator.rest.items)
    × ((vs gs : List Name)
    → measured vs gs l.tally.left l.tally.height (part l.tally.spot (Either (expansions (map (left_in vs) l.fn.arms.items))) ∷ parts vs l.fn.pending)
    ≡ arms_measured vs gs l.left l.height (l.tally.spot.depth + shift l.tally.spot.before) l.first (map (left_in vs) l.state-iterator.rest.items) (parts vs l.pending))
