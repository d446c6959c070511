-- What is written and what is left are the whole, and each call is about less high expressions.
use Rattle.std.proofs.Common.{◌≡◌, ◌+◌, ◌*◌, ◌++◌, map, drop}
use Rattle.pgo_base.specs.ExprView.{tree}
use Rattle.pgo_base.specs.TreeSize.{height}
use Rattle.pgo_uses.specs.Pieces.{pieces_uses}
use Rattle.pgo_uses.specs.PieceView.{see}
use Rattle.pgo_uses.specs.Scopes.{in_scope, row_names}
use Rattle.pgo_uses.proofs.Heights.{piece_height, pieces_height}
use Rattle.pgo_uses.proofs.walk.+walk.Given as goal

abbrev pub invariant-add_pieces-loop-piece : goal.invariant-add_pieces-loop-piece
invariant-add_pieces-loop-piece l =
    l.out.items ++ pieces_uses (in_scope l.scope) (row_names l.bound) l.around (map see (drop l.piece-index l.pieces))
    ≡ l.initial.out.items ++ pieces_uses (in_scope l.scope) (row_names l.bound) l.around (map see l.pieces)

abbrev pub decreases-add_uses_in : goal.decreases-add_uses_in
decreases-add_uses_in l = 3 * height (tree l.e.now)

abbrev pub decreases-add_piece : goal.decreases-add_piece
decreases-add_piece l = 3 * piece_height (see l.piece) + 1

abbrev pub decreases-add_pieces : goal.decreases-add_pieces
decreases-add_pieces l = 3 * pieces_height (map see l.pieces.now) + 2
