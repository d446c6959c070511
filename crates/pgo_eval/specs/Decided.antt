-- What an operator asks of its right side.
use Rattle.std.specs.Prelude.{Bool, true, false, Option, Some, None}
use Rattle.pgo_base.specs.declared.expr.Infix.{Infix}
use Rattle.pgo_base.specs.declared.expr.Infix.TheVariants as infixs

-- it asks what its right side holds
abbrev pub is_membership : Infix → Bool
is_membership infixs.In = true
is_membership _ = false

-- the truth that it has whatever stands at its right
abbrev pub decided : Infix → Option Bool → Option Bool
decided infixs.And (Some false) = Some false
decided infixs.Or (Some true) = Some true
decided infixs.Implies (Some false) = Some true
decided _ _ = None
