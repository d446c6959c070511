-- What the loop keeps: those that are left give the same.
use Rattle.std.proofs.Common.{◌≡◌, map, drop}
use Rattle.pgo_base.specs.View.{named_data}
use Rattle.pgo_show_changes.specs.Components as spec
use Rattle.pgo_show_changes.proofs.components.content_of.Given as goal

abbrev pub invariant-loop-variable : goal.invariant-loop-variable
invariant-loop-variable l = spec.content_of l.word (map named_data l.variables) ≡ spec.content_of l.word (map named_data (drop l.variable-index l.variables))
