-- A token is at most one sign.
use Rattle.std.proofs.Common.{◌≡◌, true, false, ap, rules, refl, arith}
use denote.Enum.Bare.{same_true, true_same}
use Rattle.pgo_base.specs.contracts.expr.Infix as operator
use Rattle.pgo_base.specs.contracts.expr.Prefix as prefix
use Rattle.pgo_base.specs.contracts.expr.Quantifier as quantifier
use Rattle.pgo_base.specs.contracts.expr.Word as word
use Rattle.pgo_lexer.specs.declared.symbol.Symbol.{Symbol}
use Rattle.pgo_lexer.specs.contracts.symbol.Bracket as bracket
use Rattle.pgo_lexer.specs.contracts.symbol.Keyword as keyword
use Rattle.pgo_lexer.specs.contracts.symbol.SymbolPartialEq.TheImpl.{eq-value}
use Rattle.pgo_lexer.specs.declared.symbol.Symbol.TheVariants as symbol
use Rattle.pgo_lexer.specs.declared.token.Token.{Token}
use Rattle.pgo_lexer.specs.declared.token.Token.TheVariants as t
use Rattle.pgo_expr_read.specs.Signs.{is_sign, same_symbol}

-- symbols are the same exactly where they are one
one_symbol : (a b : Symbol) → same_symbol a b ≡ true → a ≡ b
one_symbol (symbol.Infix a) (symbol.Infix b) e = ap symbol.Infix (same_true operator.the_type (search rules) a b e)
one_symbol (symbol.Prefix a) (symbol.Prefix b) e = ap symbol.Prefix (same_true prefix.the_type (search rules) a b e)
one_symbol (symbol.Quantifier a) (symbol.Quantifier b) e = ap symbol.Quantifier (same_true quantifier.the_type (search rules) a b e)
one_symbol (symbol.Word a) (symbol.Word b) e = ap symbol.Word (same_true word.the_type (search rules) a b e)
one_symbol (symbol.Truth a) (symbol.Truth b) e = search rules
one_symbol (symbol.Keyword a) (symbol.Keyword b) e = ap symbol.Keyword (same_true keyword.the_type (search rules) a b e)
one_symbol (symbol.Open a) (symbol.Open b) e = ap symbol.Open (same_true bracket.the_type (search rules) a b e)
one_symbol (symbol.Close a) (symbol.Close b) e = ap symbol.Close (same_true bracket.the_type (search rules) a b e)
one_symbol symbol.Product symbol.Product e = refl
one_symbol symbol.Prime symbol.Prime e = refl
one_symbol symbol.At symbol.At e = refl
one_symbol symbol.Except symbol.Except e = refl
one_symbol symbol.Unchanged symbol.Unchanged e = refl
one_symbol symbol.Choose symbol.Choose e = refl
one_symbol symbol.If symbol.If e = refl
one_symbol symbol.Then symbol.Then e = refl
one_symbol symbol.Else symbol.Else e = refl
one_symbol symbol.Case symbol.Case e = refl
one_symbol symbol.Other symbol.Other e = refl
one_symbol symbol.Let symbol.Let e = refl
one_symbol symbol.LetIn symbol.LetIn e = refl
one_symbol symbol.Comma symbol.Comma e = refl
one_symbol symbol.Colon symbol.Colon e = refl
one_symbol symbol.Semicolon symbol.Semicolon e = refl
one_symbol symbol.Dot symbol.Dot e = refl
one_symbol symbol.Bang symbol.Bang e = refl
one_symbol symbol.MapsTo symbol.MapsTo e = refl
one_symbol symbol.Arrow symbol.Arrow e = refl
one_symbol symbol.Box symbol.Box e = refl
one_symbol symbol.Defines symbol.Defines e = refl
one_symbol symbol.Assign symbol.Assign e = refl
one_symbol symbol.Bars symbol.Bars e = refl
one_symbol symbol.Underscore symbol.Underscore e = refl
one_symbol symbol.Variable symbol.Variable e = refl
one_symbol symbol.Value symbol.Value e = refl
one_symbol _ _ e = absurd (let p = e in grind arith)

pub itself : (v : Symbol) → same_symbol v v ≡ true
itself (symbol.Infix a) = true_same operator.the_type a a refl
itself (symbol.Prefix a) = true_same prefix.the_type a a refl
itself (symbol.Quantifier a) = true_same quantifier.the_type a a refl
itself (symbol.Word a) = true_same word.the_type a a refl
itself (symbol.Keyword a) = true_same keyword.the_type a a refl
itself (symbol.Open a) = true_same bracket.the_type a a refl
itself (symbol.Close a) = true_same bracket.the_type a a refl
itself (symbol.Truth true) = refl
itself (symbol.Truth false) = refl
itself _ = refl

-- the derived equality says the same
pub derived_symbol : (a b : Symbol) → eq-value.it a b ≡ same_symbol a b
derived_symbol (symbol.Infix a) (symbol.Infix b) = refl
derived_symbol (symbol.Prefix a) (symbol.Prefix b) = refl
derived_symbol (symbol.Quantifier a) (symbol.Quantifier b) = refl
derived_symbol (symbol.Word a) (symbol.Word b) = refl
derived_symbol (symbol.Keyword a) (symbol.Keyword b) = refl
derived_symbol (symbol.Open a) (symbol.Open b) = refl
derived_symbol (symbol.Close a) (symbol.Close b) = refl
derived_symbol (symbol.Truth true) (symbol.Truth true) = refl
derived_symbol (symbol.Truth true) (symbol.Truth false) = refl
derived_symbol (symbol.Truth false) (symbol.Truth true) = refl
derived_symbol (symbol.Truth false) (symbol.Truth false) = refl
derived_symbol symbol.Product symbol.Product = refl
derived_symbol symbol.Prime symbol.Prime = refl
derived_symbol symbol.At symbol.At = refl
derived_symbol symbol.Except symbol.Except = refl
derived_symbol symbol.Unchanged symbol.Unchanged = refl
derived_symbol symbol.Choose symbol.Choose = refl
derived_symbol symbol.If symbol.If = refl
derived_symbol symbol.Then symbol.Then = refl
derived_symbol symbol.Else symbol.Else = refl
derived_symbol symbol.Case symbol.Case = refl
derived_symbol symbol.Other symbol.Other = refl
derived_symbol symbol.Let symbol.Let = refl
derived_symbol symbol.LetIn symbol.LetIn = refl
derived_symbol symbol.Comma symbol.Comma = refl
derived_symbol symbol.Colon symbol.Colon = refl
derived_symbol symbol.Semicolon symbol.Semicolon = refl
derived_symbol symbol.Dot symbol.Dot = refl
derived_symbol symbol.Bang symbol.Bang = refl
derived_symbol symbol.MapsTo symbol.MapsTo = refl
derived_symbol symbol.Arrow symbol.Arrow = refl
derived_symbol symbol.Box symbol.Box = refl
derived_symbol symbol.Defines symbol.Defines = refl
derived_symbol symbol.Assign symbol.Assign = refl
derived_symbol symbol.Bars symbol.Bars = refl
derived_symbol symbol.Underscore symbol.Underscore = refl
derived_symbol symbol.Variable symbol.Variable = refl
derived_symbol symbol.Value symbol.Value = refl
derived_symbol _ _ = refl

pub token_of_sign : (v : Symbol) (k : Token) → is_sign v k ≡ true → k ≡ t.Symbol v
token_of_sign v (t.Symbol s) e = ap t.Symbol (one_symbol s v e)
token_of_sign v _ e = absurd (let p = e in grind arith)

pub own_sign : (v : Symbol) → is_sign v (t.Symbol v) ≡ true
own_sign v = itself v
