-- The usage of names, as it lies in memory.
use Rattle.std.specs.Prelude.{Option, Some, None}
use Rattle.pgo_base.specs.Lookup.{Name}
use Rattle.pgo_base.specs.NameMaps.{found}
use Rattle.pgo_scope.specs.declared.name_usage.NameUsage.{NameUsage}
use Rattle.pgo_scope.specs.declared.usage.Usage.{Usage}
use Rattle.pgo_scope.specs.Usage.{no_usage}

abbrev pub or_no_usage : Option Usage → Usage
or_no_usage None = no_usage
or_no_usage (Some w) = w

abbrev pub usage_of : NameUsage → Name → Usage
usage_of n p = or_no_usage (found n.map p)
