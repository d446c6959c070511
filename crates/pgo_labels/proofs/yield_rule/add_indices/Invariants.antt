-- What is made and what is left are the whole.
use Rattle.std.proofs.Common.{◌≡◌, ◌++◌, drop}
use Rattle.pgo_operands.specs.Operands.{lent_trees}
use Rattle.pgo_labels.specs.YieldRule as spec
use Rattle.pgo_labels.proofs.yield_rule.add_indices.Given as goal

abbrev pub invariant-loop-step : goal.invariant-loop-step
invariant-loop-step l = lent_trees l.parts.items ++ spec.indices (drop l.step-index l.list) ≡ lent_trees l.initial.parts.items ++ spec.indices l.path
