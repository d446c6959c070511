-- A written module as it lies in memory, as the module that it stands for.
use Rattle.std.specs.Prelude.{map}
use Rattle.pgo_base.specs.View.{data_of}
use Rattle.pgo_base.specs.declared.module.Module as base_module
use Rattle.pgo_base.specs.declared.module.WrittenProcess as base_process
use Rattle.pgo_base.specs.declared.module.Defined as base_defined
use Rattle.pgo_base.specs.declared.module.Defined.TheVariants as base_variants
use Rattle.pgo_model.specs.Val.{Defined, Given, Means}
use Rattle.pgo_model.specs.Module.{Module, WrittenProcess}

abbrev pub defined_view : base_defined.Defined → Defined
defined_view (base_variants.Given x v) = Given x (data_of v)
defined_view (base_variants.Means x ps e) = Means x ps e

abbrev pub process_view : base_process.WrittenProcess → WrittenProcess
process_view p = record { name = p.name; ids = p.ids; actions = p.actions }

abbrev pub module_view : base_module.Module → Module
module_view m = record {
  name = m.name;
  constants = m.constants;
  definitions = map defined_view m.definitions;
  variables = m.variables;
  init = m.init;
  processes = map process_view m.processes;
}
