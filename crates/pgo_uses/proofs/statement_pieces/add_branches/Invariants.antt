-- What the loop keeps: what is made and what is left are the whole.
use Rattle.std.proofs.Common.{◌≡◌, ◌++◌, map, drop}
use Rattle.pgo_syntax.specs.StatementView as view
use Rattle.pgo_syntax.specs.Statement.{guarded}
use Rattle.pgo_uses.specs.StatementPieces.{branch_parts}
use Rattle.pgo_uses.specs.StatementPieceView.{see_part}
use Rattle.pgo_uses.proofs.statement_pieces.add_branches.Given as goal

abbrev pub invariant-loop-b : goal.invariant-loop-b
invariant-loop-b l =
    map see_part l.parts.items ++ branch_parts (guarded (map view.branch_parts (drop l.b-index l.b-items))) ≡ map see_part l.initial.parts.items ++ branch_parts (guarded l.list)
