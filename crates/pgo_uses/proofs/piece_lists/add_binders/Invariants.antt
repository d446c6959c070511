-- What the loop keeps: what is made and what is left are the whole.
use Rattle.std.proofs.Common.{◌≡◌, ◌++◌, map, drop, length}
use Rattle.pgo_base.specs.ExprView.{bound_tree}
use Rattle.pgo_base.specs.Tree.{bound}
use Rattle.pgo_uses.specs.Pieces.{binder_pieces}
use Rattle.pgo_uses.specs.PieceView.{see}
use Rattle.pgo_uses.specs.Scopes.{row_names}
use Rattle.pgo_uses.specs.Uses.{binder_names}
use Rattle.pgo_uses.proofs.piece_lists.add_binders.Given as goal

abbrev pub invariant-loop-b : goal.invariant-loop-b
invariant-loop-b l =
    (map see l.pieces.items ++ binder_pieces (length l.bound) (bound (map bound_tree (drop l.b-index l.b-items)))
    ≡ map see l.initial.pieces.items ++ binder_pieces (length l.initial.bound) (bound l.list))
    × (row_names l.bound ++ binder_names (bound (map bound_tree (drop l.b-index l.b-items)))
    ≡ row_names l.initial.bound ++ binder_names (bound l.list))
