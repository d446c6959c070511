-- What the loop keeps: what is made and what is left are the whole.
use Rattle.std.proofs.Common.{◌≡◌, ◌++◌, map, drop}
use Rattle.pgo_base.specs.ExprView.{path_tree}
use Rattle.pgo_base.specs.Tree.{paths}
use Rattle.pgo_expr_write.specs.Parts.{see}
use Rattle.pgo_expr_write.specs.Pieces as spec
use Rattle.pgo_expr_write.proofs.lists.add_updates.Given as goal

abbrev pub invariant-loop-i : goal.invariant-loop-i
invariant-loop-i l =
    map see l.parts.items ++ spec.updates_from l.i (paths (map path_tree (drop l.i l.items)))
    ≡ map see l.initial.parts.items ++ spec.updates_from 0 (paths l.list)
