-- What the loop keeps: what is made and what is left are the whole.
use Rattle.std.proofs.Common.{◌≡◌, ◌++◌, map, drop}
use Rattle.pgo_base.specs.ExprView.{arm_tree}
use Rattle.pgo_base.specs.Tree.{arms}
use Rattle.pgo_expr_write.specs.Parts.{see}
use Rattle.pgo_expr_write.specs.Pieces as spec
use Rattle.pgo_expr_write.proofs.lists.add_arms.Given as goal

abbrev pub invariant-loop-i : goal.invariant-loop-i
invariant-loop-i l =
    map see l.parts.items ++ spec.arms_from l.i (arms (map arm_tree (drop l.i l.items)))
    ≡ map see l.initial.parts.items ++ spec.arms_from 0 (arms l.list)
