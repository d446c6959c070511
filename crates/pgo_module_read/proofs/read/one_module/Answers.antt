-- The law.
use Rattle.pgo_module_read.proofs.Exact.{one_module}
use Rattle.pgo_module_read.proofs.read.one_module.Goals as goal

pub returns : goal.returns
returns c = one_module
