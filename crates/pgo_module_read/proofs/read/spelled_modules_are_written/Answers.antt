-- The law.
use Rattle.pgo_module_read.proofs.Exact.{spelled_written}
use Rattle.pgo_module_read.proofs.read.spelled_modules_are_written.Goals as goal

pub returns : goal.returns
returns c = spelled_written
