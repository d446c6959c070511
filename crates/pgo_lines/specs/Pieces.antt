-- What the pieces of a line write.
use Rattle.std.specs.Prelude.{ℕ, List, [], ◌∷◌, ◌++◌, decimal}
use Rattle.pgo_lines.specs.declared.line.Piece.{Piece}
use Rattle.pgo_lines.specs.declared.line.Piece.TheVariants.{Bytes, Name, Number}

abbrev pub piece_text : Piece → List ℕ
piece_text (Bytes b) = b.now
piece_text (Name t) = t.now
piece_text (Number n) = decimal n

-- the pieces one behind the other
abbrev pub pieces_text : List Piece → List ℕ
pieces_text [] = []
pieces_text (p ∷ ps) = piece_text p ++ pieces_text ps
