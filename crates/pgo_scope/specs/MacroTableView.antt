-- The table of macros as it lies in memory.
use Rattle.std.specs.Prelude.{List, map}
use Rattle.pgo_base.specs.Lookup.{Name}
use Rattle.pgo_scope.specs.declared.usage.Usage.{Usage}
use Rattle.pgo_scope.specs.declared.macro_table.ParameterUsage.{ParameterUsage}
use Rattle.pgo_scope.specs.declared.macro_table.Parameters.{Parameters}
use Rattle.pgo_scope.specs.declared.macro_table.MacroTable as code
use Rattle.pgo_scope.specs.Usage.{MacroTable}

abbrev pub see_usage : ParameterUsage → Name × Usage
see_usage p = (p.name, p.usage)

abbrev pub see_parameters : Parameters → List (Name × Usage)
see_parameters k = map see_usage k.list.items

abbrev pub see_table : code.MacroTable → MacroTable
see_table k = (k.names.now, map see_parameters k.list.now)
