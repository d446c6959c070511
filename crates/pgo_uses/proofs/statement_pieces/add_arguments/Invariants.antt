-- What the loop keeps: what is made and what is left are the whole.
use Rattle.std.proofs.Common.{◌≡◌, ◌++◌, map, drop}
use Rattle.pgo_base.specs.ExprView.{tree}
use Rattle.pgo_uses.specs.StatementPieces.{argument_parts}
use Rattle.pgo_uses.specs.StatementPieceView.{see_part}
use Rattle.pgo_uses.proofs.statement_pieces.add_arguments.Given as goal

abbrev pub invariant-loop-e : goal.invariant-loop-e
invariant-loop-e l =
    map see_part l.parts.items ++ argument_parts l.place (map tree (drop l.e-index l.e-items)) ≡ map see_part l.initial.parts.items ++ argument_parts l.place l.list
