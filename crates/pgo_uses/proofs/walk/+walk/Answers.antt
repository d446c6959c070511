use Rattle.std.proofs.Common.{◌<◌, ◌≤◌, ◌++◌, map, ap, arith}
use Rattle.std.proofs.lemmas.Result.{IfOk-equal}
use Rattle.pgo_base.specs.ExprView.{tree}
use Rattle.pgo_base.specs.TreeSize.{height}
use Rattle.pgo_uses.specs.PieceView.{see}
use Rattle.pgo_uses.specs.Scopes.{in_scope}
use Rattle.pgo_uses.proofs.Heights.{piece_height, pieces_height, pieces_below, at_height}
use Rattle.pgo_uses.proofs.Walked.{all_walked}
use Rattle.pgo_uses.proofs.walk.+walk.Goals as goal

pub add_pieces-add_piece-requires : goal.add_pieces-add_piece-requires
add_pieces-add_piece-requires t c =
    let s : piece_height (see c.piece-item.result) ≤ pieces_height (map see c.args.pieces.now) = at_height _ _ _ (omega arith) c.piece-item.is in
    (omega arith, tt)

pub add_uses_in-add_pieces-requires : goal.add_uses_in-add_pieces-requires
add_uses_in-add_pieces-requires t c =
    let s : pieces_height (map see c.as_slice-list.result.now) < height (tree c.args.e.now) = pieces_below _ _ _ c.as_slice-list.ensures.value c.in_ok-pieces.ensures.pieces in
    (omega arith, tt)

pub add_uses_in-returns : goal.add_uses_in-returns
add_uses_in-returns t c =
    IfOk-equal c.add_pieces.result _ _ _ c.add_pieces.ensures
    (ap (λ l. c.args.out.now.items ++ l)
    (all_walked (in_scope c.args.scope.now) c.args.around (tree c.args.e.now) _ _ _ c.as_slice-list.ensures.value c.in_ok-pieces.ensures.pieces c.in_ok-pieces.ensures.bound))
