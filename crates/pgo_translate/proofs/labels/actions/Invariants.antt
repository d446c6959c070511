use Rattle.std.proofs.Common.{◌≡◌, ◌++◌, drop}
use Rattle.pgo_translate.specs.ModuleOf.{label_actions}
use Rattle.pgo_translate.proofs.labels.actions.Given as goal

abbrev pub invariant-loop-label : goal.invariant-loop-label
invariant-loop-label l = label_actions l.variables l.globals l.labels ≡ l.list ++ label_actions l.variables l.globals (drop l.label-index l.labels)
