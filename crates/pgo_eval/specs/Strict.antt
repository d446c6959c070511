-- The operators that have a value only where both operands have one.
use Rattle.std.specs.Prelude.{Bool, true, false}
use Rattle.pgo_base.specs.declared.expr.Infix.{Infix}
use Rattle.pgo_base.specs.declared.expr.Infix.TheVariants as infixs

abbrev pub is_strict : Infix → Bool
is_strict infixs.Implies = false
is_strict infixs.Iff = false
is_strict infixs.And = false
is_strict infixs.Or = false
is_strict _ = true
