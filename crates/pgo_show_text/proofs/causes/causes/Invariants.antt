-- What the loop keeps: what is found of those that are left is found of all, and with the counts of those that are left all are counted.
use Rattle.std.proofs.Common.{◌≡◌, ◌≤◌, ◌+◌, true, [], map, drop}
use Rattle.pgo_bundle.specs.Accounts.{AttemptLine}
use Rattle.pgo_bundle.specs.View.{attempt_view}
use Rattle.pgo_show_text.specs.Causes.{all_counted, counted, line_of}
use Rattle.pgo_show_text.specs.Facts as spec
use Rattle.pgo_show_text.proofs.causes.causes.Given as goal

abbrev pub invariant-loop-attempt : goal.invariant-loop-attempt
invariant-loop-attempt l =
    (spec.causes [] (map attempt_view l.attempts) ≡ spec.causes (map line_of l.found.items) (map attempt_view (drop l.attempt-index l.attempts)))
    × ((b : AttemptLine) → spec.is_refused b ≡ true → counted b l.found.items + spec.count_by (spec.is_alike b) (map attempt_view (drop l.attempt-index l.attempts)) ≡ spec.count_by (spec.is_alike b) (map attempt_view l.attempts))
    × (all_counted l.found.items ≤ l.attempt-index)
