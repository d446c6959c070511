-- What the loop keeps: what is made and what is left are the whole.
use Rattle.std.proofs.Common.{◌≡◌, ◌++◌, map, drop}
use Rattle.pgo_base.specs.ExprView.{path_tree}
use Rattle.pgo_base.specs.Tree.{paths}
use Rattle.pgo_uses.specs.Pieces.{update_pieces}
use Rattle.pgo_uses.specs.PieceView.{see}
use Rattle.pgo_uses.proofs.piece_lists.add_updates.Given as goal

abbrev pub invariant-loop-u : goal.invariant-loop-u
invariant-loop-u l =
    map see l.pieces.items ++ update_pieces (paths (map path_tree (drop l.u-index l.u-items))) ≡ map see l.initial.pieces.items ++ update_pieces (paths l.list)
