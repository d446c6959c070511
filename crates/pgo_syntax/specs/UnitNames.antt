-- What macros, mapping macros and archetypes are called.
use Rattle.pgo_base.specs.Lookup.{Name}
use Rattle.pgo_syntax.specs.declared.archetype.Archetype.{Archetype}
use Rattle.pgo_syntax.specs.declared.macros.Macro.{Macro}
use Rattle.pgo_syntax.specs.declared.macros.MappingMacro.{MappingMacro}

abbrev pub macro_name : Macro → Name
macro_name m = m.name.name

abbrev pub mapping_name : MappingMacro → Name
mapping_name m = m.name.name

abbrev pub archetype_name : Archetype → Name
archetype_name a = a.name.name
