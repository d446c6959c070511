use Rattle.std.proofs.Common.{◌≡◌, ◌++◌, drop, map, suc}
use Rattle.pgo_bundle.specs.Accounts.{attempt_lines}
use Rattle.pgo_bundle.specs.View.{attempt_view}
use Rattle.pgo_model.specs.ModuleText.{flatten}
use Rattle.pgo_log_write.proofs.log.push_attempts.Given as goal

abbrev pub invariant-loop-i : goal.invariant-loop-i
invariant-loop-i l = l.bytes.items ++ flatten (attempt_lines (suc l.i) (map attempt_view (drop l.i l.attempts))) ≡ l.initial.bytes.items ++ flatten (attempt_lines 1 (map attempt_view l.attempts))
