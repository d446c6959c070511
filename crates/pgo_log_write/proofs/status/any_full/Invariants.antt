use Rattle.std.proofs.Common.{◌≡◌, drop}
use Rattle.pgo_log_write.specs.Status.{any_full}
use Rattle.pgo_log_write.proofs.status.any_full.Given as goal

abbrev pub invariant-loop-a : goal.invariant-loop-a
invariant-loop-a l = any_full (drop l.a-index l.accounts) ≡ any_full l.accounts
