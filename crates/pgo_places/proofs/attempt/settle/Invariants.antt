-- What is left stays the same behind all places where contents are put back, and whether there is one.
use Rattle.std.proofs.Common.{◌≡◌, true}
use Rattle.std.specs.Prelude.{if◌then◌else◌}
use Rattle.pgo_workers.specs.Walk.{settled, goes_back}
use Rattle.pgo_places.specs.PlaceWalk.{walk_in}
use Rattle.pgo_places.proofs.attempt.settle.Given as goal

abbrev pub invariant-loop-last : goal.invariant-loop-last
invariant-loop-last l =
    (settled (walk_in l.program l.attempt) ≡ settled (walk_in l.program l.initial.attempt))
    × ((if l.back then true else goes_back (walk_in l.program l.attempt)) ≡ goes_back (walk_in l.program l.initial.attempt))

abbrev pub decreases-loop-last : goal.decreases-loop-last
decreases-loop-last l = l.attempt.left
