-- What the loop keeps: the lines so far, with those of the attempts that are left, are all.
use Rattle.std.proofs.Common.{◌≡◌, map, drop}
use Rattle.std.specs.Prelude.{None, option_map}
use Rattle.pgo_bundle.specs.View.{attempt_view, logged_entry_view}
use Rattle.pgo_show_picture.specs.Picture as spec
use Rattle.pgo_show_picture.proofs.noted.push_attempts.Given as goal

abbrev pub invariant-loop-attempt : goal.invariant-loop-attempt
invariant-loop-attempt l =
    spec.with_attempts (map logged_entry_view l.entries) l.size l.lane 0 None (map attempt_view l.attempts) l.fn.lines
    ≡ spec.with_attempts (map logged_entry_view l.entries) l.size l.lane l.behind (option_map (λ r. attempt_view r.now) l.before) (map attempt_view (drop l.attempt-index l.attempts)) l.lines
