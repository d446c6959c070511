use Rattle.pgo_log_write.proofs.LeavesWritten.{most_written, result_written}
use Rattle.pgo_log_write.proofs.leaves_are_written.Goals as goal

pub returns-clause-number : goal.returns-clause-number
returns-clause-number c = most_written

pub returns-clause-own : goal.returns-clause-own
returns-clause-own c = result_written
