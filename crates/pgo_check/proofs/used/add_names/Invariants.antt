use Rattle.pgo_operands.specs.Operands.{lent_trees}
use Rattle.pgo_check.proofs.WorkNodes.{work_nodes}
use Rattle.pgo_check.proofs.used.add_names.Given as goal

abbrev pub decreases-loop-one : goal.decreases-loop-one
decreases-loop-one l = work_nodes (lent_trees l.left.items)
