use Rattle.std.proofs.Common.{◌≡◌, drop}
use Rattle.pgo_log_write.specs.Status.{any_stopped}
use Rattle.pgo_log_write.proofs.status.any_stopped.Given as goal

abbrev pub invariant-loop-a : goal.invariant-loop-a
invariant-loop-a l = any_stopped (drop l.a-index l.accounts) ≡ any_stopped l.accounts
