-- What an operator asks of its operands.
use Rattle.std.proofs.Common.{◌≡◌, refl, ap, sym, ◌∙◌}
use Rattle.std.specs.Prelude.{Bool, true, false, Option, Some, None, option_and_then}
use Rattle.pgo_base.specs.Data.{Data}
use Rattle.pgo_base.specs.declared.expr.Infix.{Infix}
use Rattle.pgo_base.specs.declared.expr.Infix.TheVariants as infixs
use Rattle.pgo_base.specs.declared.expr.Prefix.{Prefix}
use Rattle.pgo_base.specs.declared.expr.Prefix.TheVariants as prefixs
use Rattle.pgo_model.specs.Operators.{from_truth}
use Rattle.pgo_model.specs.Val.{Sem, plain, unary_sem, binary_sem}
use Rattle.pgo_eval.specs.Decided.{is_membership}

-- an operator before its operand asks for its value
pub unary_values : (o : Prefix) (m : Sem) → unary_sem o (plain m.value) ≡ unary_sem o m
unary_values prefixs.Not m = refl
unary_values prefixs.Minus m = refl
unary_values prefixs.Powerset m = refl
unary_values prefixs.Flatten m = refl
unary_values prefixs.Domain m = refl

-- every operator but `\in` asks for both values
pub binary_values : (o : Infix) (m n : Sem) → is_membership o ≡ false → binary_sem o (plain m.value) (plain n.value) ≡ binary_sem o m n
binary_values infixs.Implies m n h = refl
binary_values infixs.Iff m n h = refl
binary_values infixs.And m n h = refl
binary_values infixs.Or m n h = refl
binary_values infixs.Equal m n h = refl
binary_values infixs.Differs m n h = refl
binary_values infixs.Less m n h = refl
binary_values infixs.Greater m n h = refl
binary_values infixs.AtMost m n h = refl
binary_values infixs.AtLeast m n h = refl
binary_values infixs.In m n h = absurd (cc)
binary_values infixs.NotIn m n h = refl
binary_values infixs.SubsetEq m n h = refl
binary_values infixs.Merge m n h = refl
binary_values infixs.Single m n h = refl
binary_values infixs.Union m n h = refl
binary_values infixs.Intersect m n h = refl
binary_values infixs.Without m n h = refl
binary_values infixs.Range m n h = refl
binary_values infixs.Add m n h = refl
binary_values infixs.Subtract m n h = refl
binary_values infixs.Modulo m n h = refl
binary_values infixs.Multiply m n h = refl
binary_values infixs.Concat m n h = refl
binary_values infixs.Divide m n h = refl

is_in : (o : Infix) → is_membership o ≡ true → o ≡ infixs.In
is_in infixs.Implies h = absurd (cc)
is_in infixs.Iff h = absurd (cc)
is_in infixs.And h = absurd (cc)
is_in infixs.Or h = absurd (cc)
is_in infixs.Equal h = absurd (cc)
is_in infixs.Differs h = absurd (cc)
is_in infixs.Less h = absurd (cc)
is_in infixs.Greater h = absurd (cc)
is_in infixs.AtMost h = absurd (cc)
is_in infixs.AtLeast h = absurd (cc)
is_in infixs.In h = refl
is_in infixs.NotIn h = absurd (cc)
is_in infixs.SubsetEq h = absurd (cc)
is_in infixs.Merge h = absurd (cc)
is_in infixs.Single h = absurd (cc)
is_in infixs.Union h = absurd (cc)
is_in infixs.Intersect h = absurd (cc)
is_in infixs.Without h = absurd (cc)
is_in infixs.Range h = absurd (cc)
is_in infixs.Add h = absurd (cc)
is_in infixs.Subtract h = absurd (cc)
is_in infixs.Modulo h = absurd (cc)
is_in infixs.Multiply h = absurd (cc)
is_in infixs.Concat h = absurd (cc)
is_in infixs.Divide h = absurd (cc)

-- `\in` asks its right side what it holds
pub membership_holds : (o : Infix) (m n : Sem) (v : Option Data) (r : Option Bool) → is_membership o ≡ true → v ≡ m.value → r ≡ option_and_then n.holds v → plain (from_truth r) ≡ binary_sem o m n
membership_holds o m n v r h e g = ap (λ t. plain (from_truth t)) g ∙ ap plain (go v) ∙ ap (λ w. plain (option_and_then (λ x. from_truth (n.holds x)) w)) e ∙ ap (λ p. binary_sem p m n) (sym (is_in o h))
  where
    go : (w : Option Data) → from_truth (option_and_then n.holds w) ≡ option_and_then (λ x. from_truth (n.holds x)) w
    go None = refl
    go (Some x) = refl
