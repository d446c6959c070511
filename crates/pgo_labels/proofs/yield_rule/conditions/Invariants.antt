-- What is made and what is left are the whole.
use Rattle.std.proofs.Common.{◌≡◌, ◌++◌, map, drop}
use Rattle.pgo_syntax.specs.Statement.{guarded}
use Rattle.pgo_syntax.specs.StatementView.{branch_parts}
use Rattle.pgo_operands.specs.Operands.{lent_trees}
use Rattle.pgo_labels.specs.YieldRule as spec
use Rattle.pgo_labels.proofs.yield_rule.conditions.Given as goal

abbrev pub invariant-loop-one : goal.invariant-loop-one
invariant-loop-one l = lent_trees l.parts.items ++ spec.conditions (guarded (map branch_parts (drop l.one-index l.list))) ≡ spec.conditions (guarded l.branches)
