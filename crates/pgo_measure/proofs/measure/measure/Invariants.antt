use Rattle.std.proofs.Common.{◌≡◌, ◌∷◌, [], Some}
use Rattle.pgo_walk.specs.Emitted.{left_in}
use Rattle.pgo_measure.specs.Measured.{measured}
use Rattle.pgo_measure.specs.Pendings.{part}
use Rattle.pgo_measure.specs.PendingView.{parts}
use Rattle.pgo_measure.proofs.measure.measure.Given as goal

abbrev pub invariant-loop : goal.invariant-loop
invariant-loop l =
    measured l.variables l.globals l.fn.left 0 (part (record { before = Some 3; depth = 0 }) (left_in l.variables l.fn.state) ∷ [])
    ≡ measured l.variables l.globals l.size.left l.size.height (parts l.variables l.pending)
