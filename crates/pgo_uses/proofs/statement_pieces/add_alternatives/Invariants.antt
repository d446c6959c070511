-- What the loop keeps: what is made and what is left are the whole.
use Rattle.std.proofs.Common.{◌≡◌, ◌++◌, map, drop}
use Rattle.pgo_syntax.specs.StatementView.{statement}
use Rattle.pgo_syntax.specs.Statement.{statements}
use Rattle.pgo_uses.specs.StatementPieces.{alternative_parts}
use Rattle.pgo_uses.specs.StatementPieceView.{see_part}
use Rattle.pgo_uses.proofs.statement_pieces.add_alternatives.Given as goal

abbrev pub invariant-loop-s : goal.invariant-loop-s
invariant-loop-s l =
    map see_part l.parts.items ++ alternative_parts (statements (map statement (drop l.s-index l.s-items))) ≡ map see_part l.initial.parts.items ++ alternative_parts (statements l.list)
