-- What the loop keeps: what is made and what is left are the whole.
use Rattle.std.proofs.Common.{◌≡◌, ◌+◌, ◌++◌, map, drop, length}
use Rattle.pgo_uses.specs.Pieces.{name_pieces}
use Rattle.pgo_uses.specs.PieceView.{see}
use Rattle.pgo_uses.specs.Scopes.{row_names}
use Rattle.pgo_uses.proofs.piece_lists.add_names.Given as goal

abbrev pub invariant-loop-x : goal.invariant-loop-x
invariant-loop-x l =
    (map see l.pieces.items ++ name_pieces (length l.bound) (drop l.x-index l.x-items)
    ≡ map see l.initial.pieces.items ++ name_pieces (length l.initial.bound) l.names)
    × (row_names l.bound ++ drop l.x-index l.x-items ≡ row_names l.initial.bound ++ l.names)
    × (length l.bound ≡ l.x-index + length l.initial.bound)
