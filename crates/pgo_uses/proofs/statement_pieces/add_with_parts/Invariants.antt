-- What the loop keeps: what is made and what is left are the whole.
use Rattle.std.proofs.Common.{◌≡◌, ◌++◌, map, drop}
use Rattle.pgo_uses.specs.StatementPieces.{with_parts}
use Rattle.pgo_uses.specs.StatementPieceView.{see_part}
use Rattle.pgo_uses.proofs.statement_pieces.add_with_parts.Given as goal

abbrev pub invariant-loop-i : goal.invariant-loop-i
invariant-loop-i l =
    map see_part l.parts.items ++ with_parts l.i (drop l.i l.names) ≡ map see_part l.initial.parts.items ++ with_parts 0 l.names
