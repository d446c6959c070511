-- What is made and what is left are the whole.
use Rattle.std.proofs.Common.{◌≡◌, ◌++◌, map, drop}
use Rattle.pgo_base.specs.ExprView.{named_tree}
use Rattle.pgo_base.specs.Tree.{named}
use Rattle.pgo_operands.specs.Operands as spec
use Rattle.pgo_operands.specs.Operands.{lent_trees}
use Rattle.pgo_operands.proofs.operands.add_named.Given as goal

abbrev pub invariant-loop-one : goal.invariant-loop-one
invariant-loop-one l = lent_trees l.parts.items ++ spec.named_members (named (map named_tree (drop l.one-index l.items))) ≡ lent_trees l.initial.parts.items ++ spec.named_members (named l.list)
