-- What the rules look at, as it lies in memory.
use Rattle.pgo_scope.specs.declared.rules.Context as code
use Rattle.pgo_scope.specs.Binders.{see_captures}
use Rattle.pgo_scope.specs.MacroTableView.{see_table}
use Rattle.pgo_scope.specs.Rules.{Context}

abbrev pub see : code.Context → Context
see c =
    record { spec = c.units.now.spec.now; tables = c.tables.now; macros = see_table c.macros; captures = see_captures c.captures; uses = c.uses.now }
