use Rattle.std.proofs.Common.{◌≡◌, drop}
use Rattle.pgo_log_write.specs.Status.{all_done}
use Rattle.pgo_log_write.proofs.status.all_done.Given as goal

abbrev pub invariant-loop-a : goal.invariant-loop-a
invariant-loop-a l = all_done (drop l.a-index l.accounts) ≡ all_done l.accounts
