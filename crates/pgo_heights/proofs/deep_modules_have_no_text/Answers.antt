use Rattle.pgo_translate.specs.ModuleOf.{module_of}
use Rattle.pgo_heights.proofs.Limits.{deep_is_not_written}
use Rattle.pgo_heights.proofs.deep_modules_have_no_text.Goals as goal

pub returns : goal.returns
returns c text s h spells = deep_is_not_written s h (c.spelled_modules_are_written.ensures text (module_of s) spells)
