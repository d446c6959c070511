-- What the loop keeps: what is made and what is left are the whole.
use Rattle.std.proofs.Common.{◌≡◌, ◌++◌, map, drop}
use Rattle.pgo_base.specs.ExprView.{named_tree}
use Rattle.pgo_base.specs.Tree.{named}
use Rattle.pgo_uses.specs.Pieces.{field_pieces}
use Rattle.pgo_uses.specs.PieceView.{see}
use Rattle.pgo_uses.proofs.piece_lists.add_fields.Given as goal

abbrev pub invariant-loop-f : goal.invariant-loop-f
invariant-loop-f l =
    map see l.pieces.items ++ field_pieces (named (map named_tree (drop l.f-index l.f-items))) ≡ map see l.initial.pieces.items ++ field_pieces (named l.list)
