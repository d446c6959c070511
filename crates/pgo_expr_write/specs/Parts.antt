-- What a part of the code writes.
use Rattle.std.specs.Fmt.{signed_decimal}
use Rattle.pgo_base.specs.ExprView.{tree}
use Rattle.pgo_model.specs.ValueText.{string_text}
use Rattle.pgo_expr_write.specs.declared.parts.Part.{Part}
use Rattle.pgo_expr_write.specs.declared.parts.Part.TheVariants.{Bytes, Name, Quoted, Number, Operand, Member}
use Rattle.pgo_expr_write.specs.Pieces.{Piece, written, operand}

abbrev pub see : Part → Piece
see (Bytes b) = written b.now
see (Name x) = written x.now
see (Quoted s) = written (string_text s.now)
see (Number z) = written (signed_decimal z)
see (Operand t) = operand t.now
see (Member e) = operand (tree e.now)
