-- What the loop keeps: those that are left give the same behind the count.
use Rattle.std.proofs.Common.{◌≡◌, ◌≤◌, map, drop}
use Rattle.pgo_bundle.specs.View.{attempt_view}
use Rattle.pgo_show_text.specs.Facts as spec
use Rattle.pgo_show_text.proofs.counts.at_end.Given as goal

abbrev pub invariant-loop-attempt : goal.invariant-loop-attempt
invariant-loop-attempt l =
    (spec.at_end (attempt_view l.one) (map attempt_view l.attempts) ≡ spec.at_end_behind (attempt_view l.one) l.count (map attempt_view (drop l.attempt-index l.attempts)))
    × (l.count ≤ l.attempt-index)
