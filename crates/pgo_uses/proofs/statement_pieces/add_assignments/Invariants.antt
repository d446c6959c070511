-- What the loop keeps: what is made and what is left are the whole.
use Rattle.std.proofs.Common.{◌≡◌, ◌++◌, map, drop}
use Rattle.pgo_uses.specs.StatementPieces.{assignment_parts}
use Rattle.pgo_uses.specs.StatementPieceView.{see_part}
use Rattle.pgo_uses.proofs.statement_pieces.add_assignments.Given as goal

abbrev pub invariant-loop-a : goal.invariant-loop-a
invariant-loop-a l =
    map see_part l.parts.items ++ assignment_parts (drop l.a-index l.a-items) ≡ map see_part l.initial.parts.items ++ assignment_parts l.list
