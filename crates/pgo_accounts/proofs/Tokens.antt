-- Numbers, strings and names among tokens.
use Rattle.std.proofs.Common.{List, IsTrue}
use Rattle.std.specs.List.{AllByRecursion}
use Rattle.pgo_lexer.specs.declared.token.Token.{Token}
use Rattle.pgo_lexer.specs.declared.token.Token.TheVariants as t
use Rattle.pgo_model.specs.Operators.{fits_i64}
use Rattle.pgo_values.specs.Limits.{Limits}

module _ (limits : Limits) where
  -- a number is an integer of 64 bits, and a string, as a name, is within the limits
  abbrev pub IsPlain : Token → Type 0
  IsPlain (t.Number z) = IsTrue (fits_i64 z)
  IsPlain (t.Text x) = IsTrue (limits.text x)
  IsPlain (t.Name x) = IsTrue (limits.text x)
  IsPlain _ = Unit {0}

  abbrev pub AllPlain : List Token → Type 0
  AllPlain = AllByRecursion IsPlain
