-- What the loop keeps: those that are counted, and those that are left to count, are all.
use Rattle.std.proofs.Common.{◌≡◌, ◌≤◌, ◌+◌, map, drop}
use Rattle.pgo_bundle.specs.View.{attempt_view}
use Rattle.pgo_show_text.specs.Facts as spec
use Rattle.pgo_show_text.proofs.counts.count.Given as goal

abbrev pub invariant-loop-attempt : goal.invariant-loop-attempt
invariant-loop-attempt l =
    (l.count + spec.count_by (spec.passes l.test) (map attempt_view (drop l.attempt-index l.attempts)) ≡ spec.count_by (spec.passes l.test) (map attempt_view l.attempts))
    × (l.count ≤ l.attempt-index)
