-- What the loop keeps: the lines so far, with those of the variables that are left, are all.
use Rattle.std.proofs.Common.{◌≡◌, map, drop}
use Rattle.pgo_base.specs.View.{named_data}
use Rattle.pgo_show_text.specs.Shown as spec
use Rattle.pgo_show_text.proofs.values.push_values.Given as goal

abbrev pub invariant-loop-variable : goal.invariant-loop-variable
invariant-loop-variable l =
    spec.with_values l.action (map named_data l.variables) l.fn.lines
    ≡ spec.with_values l.action (map named_data (drop l.variable-index l.variables)) l.lines
