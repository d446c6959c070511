-- What is written and what is left are the whole, and each call is about less deep statements.
use Rattle.std.proofs.Common.{◌≡◌, ◌+◌, ◌*◌, ◌++◌, map, drop}
use Rattle.pgo_syntax.specs.StatementView.{statement}
use Rattle.pgo_syntax.specs.StatementSize.{height}
use Rattle.pgo_uses.specs.StatementPieces.{parts_uses}
use Rattle.pgo_uses.specs.StatementPieceView.{see_part}
use Rattle.pgo_uses.specs.Scopes.{in_scope, row_names}
use Rattle.pgo_uses.proofs.StatementHeights.{part_height, parts_height}
use Rattle.pgo_uses.proofs.statement_walk.+statement_walk.Given as goal

abbrev pub invariant-add_parts-loop-part : goal.invariant-add_parts-loop-part
invariant-add_parts-loop-part l =
    l.out.items ++ parts_uses (in_scope l.scope) (row_names l.bound) l.around (map see_part (drop l.part-index l.parts))
    ≡ l.initial.out.items ++ parts_uses (in_scope l.scope) (row_names l.bound) l.around (map see_part l.parts)

abbrev pub decreases-add_statement : goal.decreases-add_statement
decreases-add_statement l = 3 * height (statement l.s.now)

abbrev pub decreases-add_part : goal.decreases-add_part
decreases-add_part l = 3 * part_height (see_part l.part) + 1

abbrev pub decreases-add_parts : goal.decreases-add_parts
decreases-add_parts l = 3 * parts_height (map see_part l.parts.now) + 2
