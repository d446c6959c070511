use Rattle.pgo_translate.specs.ModuleOf.{module_of}
use Rattle.pgo_model.specs.ModuleText.{Text}
use Rattle.pgo_written.proofs.modules_are_read_back.Goals as goal

pub returns : goal.returns
returns c text s consts spells passes short =
    let h = c.canonical_modules_are_spelled.ensures (module_of s) (c.modules_are_written.ensures text s consts spells passes) short in
    record { spells = h; only = λ other k. c.one_module.ensures (Text (module_of s)) other (module_of s) k h }
