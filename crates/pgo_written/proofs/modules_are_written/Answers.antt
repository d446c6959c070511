use Rattle.pgo_written.proofs.FormedLimits.{limits}
use Rattle.pgo_written.proofs.ModuleHeights.{module_low}
use Rattle.pgo_written.proofs.WrittenModules.{module_written}
use Rattle.pgo_written.proofs.modules_are_written.Goals as goal

pub returns : goal.returns
returns c text s consts spells passes = module_written text s consts spells passes (module_low s 512 (limits s passes.limits).1)
