use Rattle.std.proofs.Common.{◌≡◌, ◌++◌, drop}
use Rattle.pgo_lines.specs.Pieces.{pieces_text}
use Rattle.pgo_lines.proofs.line.Line.of.Given as goal

abbrev pub invariant-loop-piece : goal.invariant-loop-piece
invariant-loop-piece l = l.bytes.items ++ pieces_text (drop l.piece-index l.pieces) ≡ pieces_text l.pieces
