use Rattle.std.proofs.Common.{◌<◌, ◌≤◌, ◌++◌, map, ap, arith}
use Rattle.std.proofs.lemmas.Result.{IfOk-equal}
use Rattle.pgo_base.specs.ExprView.{tree}
use Rattle.pgo_base.specs.TreeSize.{height}
use Rattle.pgo_expr_write.specs.Parts.{see}
use Rattle.pgo_expr_write.specs.Pieces.{piece_height, pieces_height}
use Rattle.pgo_expr_write.proofs.Heights.{parts_below, at_height}
use Rattle.pgo_expr_write.proofs.ByNames.{parts_by_name}
use Rattle.pgo_expr_write.proofs.write.+push.Goals as goal

pub push_body-push_parts-requires : goal.push_body-push_parts-requires
push_body-push_parts-requires t c =
    let s : pieces_height (map see c.as_slice.result.now) < height (tree c.args.e.now) = parts_below _ _ _ c.as_slice.ensures.value c.in_ok-parts.ensures in
    (omega arith, tt)

pub push_body-returns : goal.push_body-returns
push_body-returns t c =
    IfOk-equal c.push_parts.result _ _ _ c.push_parts.ensures
    (ap (λ l. c.args.bytes.now.items ++ l) (parts_by_name c.args.own.now _ _ (tree c.args.e.now) c.as_slice.ensures.value c.in_ok-parts.ensures c.in_default.ensures))

pub push_parts-push_part-requires : goal.push_parts-push_part-requires
push_parts-push_part-requires t c =
    let s : piece_height (see c.part-item.result) ≤ pieces_height (map see c.args.parts.now) = at_height _ _ _ (omega arith) c.part-item.is in
    (omega arith, tt)
