-- The parts of a statement as they lie in memory.
use Rattle.pgo_base.specs.ExprView.{tree}
use Rattle.pgo_syntax.specs.StatementView.{statement}
use Rattle.pgo_uses.specs.declared.statement_pieces.Part.{Part as Lent}
use Rattle.pgo_uses.specs.declared.statement_pieces.Part.TheVariants as lent
use Rattle.pgo_uses.specs.declared.uses.Form.TheVariants as forms
use Rattle.pgo_uses.specs.StatementPieces.{Part, named, operand, argument, nested}

abbrev pub see_part : Lent → Part
see_part (lent.Left x s) = named x.now.place x.now.name (forms.Assigned s) 0
see_part (lent.Field p f) = named p f.now forms.Field 0
see_part (lent.Named x n) = named x.now.place x.now.name forms.Named n
see_part (lent.Label x) = named x.now.place x.now.name forms.Label 0
see_part (lent.Target x) = named x.now.place x.now.name forms.Target 0
see_part (lent.Called x ts) = named x.now.place x.now.name (forms.Called ts.now) 0
see_part (lent.Operand p e n) = operand p e.now n
see_part (lent.Passed p e) = argument p (tree e.now)
see_part (lent.Nested s n) = nested s.now n
see_part (lent.Member s) = nested (statement s.now) 0
