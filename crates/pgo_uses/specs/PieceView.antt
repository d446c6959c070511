-- The pieces of an expression as they lie in memory.
use Rattle.std.specs.Prelude.{List, map}
use denote.Ref.{Bor}
use Rattle.pgo_base.specs.ExprView.{tree}
use Rattle.pgo_base.specs.Lookup.{Name}
pub use Rattle.pgo_syntax.specs.PlacedNames.{lent_names as placed_names}
use Rattle.pgo_uses.specs.declared.pieces.Piece.{Piece as Lent}
use Rattle.pgo_uses.specs.declared.pieces.Piece.TheVariants as lent
use Rattle.pgo_uses.specs.declared.uses.Form.TheVariants as forms
use Rattle.pgo_uses.specs.Pieces.{Piece, used, binds, operand}

abbrev pub see : Lent → Piece
see (lent.Name x) = used x.now forms.Alone
see (lent.Applied x n) = used x.now (forms.Applied n)
see (lent.Field x) = used x.now forms.Field
see (lent.Bound x n) = binds x.now n
see (lent.Operand e m n) = operand e.now m n
see (lent.Member e m n) = operand (tree e.now) m n

-- lent names as the names that they are
abbrev pub texts : List (Bor Name) → List Name
texts xs = map (λ x. x.now) xs
