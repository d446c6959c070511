-- What the loop keeps: what is left to read gives the same.
use Rattle.std.proofs.Common.{◌≡◌, ◌-◌, ◌+◌, [], map}
use Rattle.pgo_bundle.specs.View.{attempt_view}
use Rattle.pgo_log_text.specs.Lines as spec
use Rattle.pgo_log_text.proofs.attempt.attempts.Given as goal

abbrev pub invariant-loop-turn : goal.invariant-loop-turn
invariant-loop-turn l = spec.attempts l.count 1 [] l.fn.cursor ≡ spec.attempts (l.count - l.turn) (l.turn + 1) (map attempt_view l.attempts) l.cursor
