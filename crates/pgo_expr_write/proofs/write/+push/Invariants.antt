-- What is written and what is left to write are the whole, and each call is about less high expressions.
use Rattle.std.proofs.Common.{◌≡◌, ◌+◌, ◌*◌, ◌++◌, map, drop}
use Rattle.pgo_base.specs.ExprView.{tree}
use Rattle.pgo_base.specs.TreeSize.{height}
use Rattle.pgo_expr_write.specs.ByName.{piece_by_name}
use Rattle.pgo_expr_write.specs.Parts.{see}
use Rattle.pgo_expr_write.specs.Pieces.{pieces_text, piece_height, pieces_height}
use Rattle.pgo_expr_write.proofs.write.+push.Given as goal

abbrev pub invariant-push_parts-loop-part : goal.invariant-push_parts-loop-part
invariant-push_parts-loop-part l =
    l.bytes.items ++ pieces_text (map (piece_by_name l.own) (map see (drop l.part-index l.parts)))
    ≡ l.initial.bytes.items ++ pieces_text (map (piece_by_name l.own) (map see l.parts))

abbrev pub decreases-push_body : goal.decreases-push_body
decreases-push_body l = 4 * height (tree l.e.now)

abbrev pub decreases-push_operand : goal.decreases-push_operand
decreases-push_operand l = 4 * height (tree l.e.now) + 1

abbrev pub decreases-push_part : goal.decreases-push_part
decreases-push_part l = 4 * piece_height (see l.part) + 2

abbrev pub decreases-push_parts : goal.decreases-push_parts
decreases-push_parts l = 4 * pieces_height (map see l.parts.now) + 3
