-- What the loop keeps: the usage so far and what is left are the whole.
use Rattle.std.proofs.Common.{◌≡◌, drop}
use Rattle.pgo_base.specs.Lookup.{Name}
use Rattle.pgo_scope.specs.MacroTableView.{see_table}
use Rattle.pgo_scope.specs.NameUsage.{usage_of}
use Rattle.pgo_scope.specs.Usage.{usage_from, usage_in}
use Rattle.pgo_scope.proofs.macro_table.usage_in.Given as goal

abbrev pub invariant-loop-u : goal.invariant-loop-u
invariant-loop-u l = (p : Name) → usage_from (usage_of l.found p) (see_table l.table) p (drop l.u-index l.uses) ≡ usage_in (see_table l.table) p l.uses
