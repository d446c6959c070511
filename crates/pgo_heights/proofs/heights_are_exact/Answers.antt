use Rattle.pgo_heights.proofs.Modules.{module_has_height}
use Rattle.pgo_heights.proofs.heights_are_exact.Goals as goal

pub returns : goal.returns
returns c s = module_has_height s
