use Rattle.pgo_module_write.proofs.WholeModule.{module_spelled}
use Rattle.pgo_module_write.proofs.laws.canonical_modules_are_spelled.Goals as goal

pub returns : goal.returns
returns c = module_spelled c.signs_end.ensures
