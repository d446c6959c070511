-- What the loop keeps: what is made and what is left are the whole.
use Rattle.std.proofs.Common.{◌≡◌, ◌++◌, map, drop}
use Rattle.pgo_base.specs.ExprView.{tree}
use Rattle.pgo_base.specs.Tree.{trees}
use Rattle.pgo_uses.specs.Pieces.{operands}
use Rattle.pgo_uses.specs.PieceView.{see}
use Rattle.pgo_uses.proofs.piece_lists.add_all.Given as goal

abbrev pub invariant-loop-e : goal.invariant-loop-e
invariant-loop-e l =
    map see l.pieces.items ++ operands (trees (map tree (drop l.e-index l.e-items))) ≡ map see l.initial.pieces.items ++ operands (trees l.list)
