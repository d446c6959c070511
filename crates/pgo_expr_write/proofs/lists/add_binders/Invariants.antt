-- What the loop keeps: what is made and what is left are the whole.
use Rattle.std.proofs.Common.{◌≡◌, ◌++◌, map, drop}
use Rattle.pgo_base.specs.ExprView.{bound_tree}
use Rattle.pgo_base.specs.Tree.{bound}
use Rattle.pgo_expr_write.specs.Parts.{see}
use Rattle.pgo_expr_write.specs.Pieces as spec
use Rattle.pgo_expr_write.proofs.lists.add_binders.Given as goal

abbrev pub invariant-loop-i : goal.invariant-loop-i
invariant-loop-i l =
    map see l.parts.items ++ spec.binders_from l.i (bound (map bound_tree (drop l.i l.items)))
    ≡ map see l.initial.parts.items ++ spec.binders_from 0 (bound l.list)
