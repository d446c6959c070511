use Rattle.std.specs.List.{AllByRecursion}
use Rattle.pgo_base.specs.ExprView.{tree}
use Rattle.pgo_base.specs.NameMaps.{has_name}
use Rattle.pgo_operands.specs.Operands.{lent_trees}
use Rattle.pgo_check.specs.Constants.{IsConstant}
use Rattle.pgo_check.proofs.WorkNodes.{work_nodes}
use Rattle.pgo_check.proofs.constants.is_constant.Given as goal

abbrev pub invariant-loop-one : goal.invariant-loop-one
invariant-loop-one l = AllByRecursion (IsConstant (has_name l.varying)) (lent_trees l.left.items) → IsConstant (has_name l.varying) (tree l.e)

abbrev pub decreases-loop-one : goal.decreases-loop-one
decreases-loop-one l = work_nodes (lent_trees l.left.items)
