-- What the loop keeps: what is made and what is left are the whole.
use Rattle.std.proofs.Common.{◌≡◌, ◌++◌, map, drop}
use Rattle.pgo_base.specs.ExprView.{tree}
use Rattle.pgo_base.specs.Tree.{trees}
use Rattle.pgo_expr_write.specs.Parts.{see}
use Rattle.pgo_expr_write.specs.Pieces as spec
use Rattle.pgo_expr_write.proofs.lists.add_path.Given as goal

abbrev pub invariant-loop-e : goal.invariant-loop-e
invariant-loop-e l =
    map see l.parts.items ++ spec.path_pieces (trees (map tree (drop l.e-index l.e-items)))
    ≡ map see l.initial.parts.items ++ spec.path_pieces (trees l.path)
