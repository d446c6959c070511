-- What the loop keeps: what is made and what is left are the whole.
use Rattle.std.proofs.Common.{◌≡◌, ◌++◌, map, drop, length}
use Rattle.pgo_base.specs.ExprView.{named_tree}
use Rattle.pgo_base.specs.Tree.{named}
use Rattle.pgo_uses.specs.Pieces.{let_pieces}
use Rattle.pgo_uses.specs.PieceView.{see}
use Rattle.pgo_uses.specs.Scopes.{row_names}
use Rattle.pgo_uses.specs.Uses.{let_names}
use Rattle.pgo_uses.proofs.piece_lists.add_definitions.Given as goal

abbrev pub invariant-loop-d : goal.invariant-loop-d
invariant-loop-d l =
    (map see l.pieces.items ++ let_pieces (length l.bound) (named (map named_tree (drop l.d-index l.d-items)))
    ≡ map see l.initial.pieces.items ++ let_pieces (length l.initial.bound) (named l.list))
    × (row_names l.bound ++ let_names (named (map named_tree (drop l.d-index l.d-items)))
    ≡ row_names l.initial.bound ++ let_names (named l.list))
