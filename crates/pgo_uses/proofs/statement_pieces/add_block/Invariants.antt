-- What the loop keeps: what is made and what is left are the whole.
use Rattle.std.proofs.Common.{◌≡◌, ◌++◌, map, drop}
use Rattle.pgo_syntax.specs.StatementView.{labeled_pair}
use Rattle.pgo_syntax.specs.Statement.{labeled}
use Rattle.pgo_uses.specs.StatementPieces.{block_parts}
use Rattle.pgo_uses.specs.StatementPieceView.{see_part}
use Rattle.pgo_uses.proofs.statement_pieces.add_block.Given as goal

abbrev pub invariant-loop-s : goal.invariant-loop-s
invariant-loop-s l =
    map see_part l.parts.items ++ block_parts (labeled (map labeled_pair (drop l.s-index l.s-items))) ≡ map see_part l.initial.parts.items ++ block_parts (labeled l.list)
