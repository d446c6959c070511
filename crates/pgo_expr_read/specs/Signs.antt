-- Signs and reserved words, and the tokens that they are.
use Rattle.std.specs.Prelude.{Bool, true, false, List, [], ◌∷◌}
use denote.Enum.Bare.{sameb}
use Rattle.pgo_base.specs.contracts.expr.Infix as operator
use Rattle.pgo_base.specs.contracts.expr.Prefix as prefix
use Rattle.pgo_base.specs.contracts.expr.Quantifier as quantifier
use Rattle.pgo_base.specs.contracts.expr.Word as word
use Rattle.pgo_lexer.specs.contracts.symbol.Bracket as bracket
use Rattle.pgo_lexer.specs.contracts.symbol.Keyword as keyword
use Rattle.pgo_lexer.specs.contracts.symbol.Symbol as any
use Rattle.pgo_lexer.specs.declared.symbol.Symbol.{Symbol}
use Rattle.pgo_lexer.specs.declared.symbol.Symbol.TheVariants as symbol
use Rattle.pgo_lexer.specs.declared.token.Token.{Token}
use Rattle.pgo_lexer.specs.declared.token.Token.TheVariants as t

abbrev same_truth : Bool → Bool → Bool
same_truth true b = b
same_truth false true = false
same_truth false false = true

-- two symbols are one: they are of one constructor, and so is what they have inside
abbrev pub same_symbol : Symbol → Symbol → Bool
same_symbol (symbol.Infix a) (symbol.Infix b) = sameb operator.the_type a b
same_symbol (symbol.Prefix a) (symbol.Prefix b) = sameb prefix.the_type a b
same_symbol (symbol.Quantifier a) (symbol.Quantifier b) = sameb quantifier.the_type a b
same_symbol (symbol.Word a) (symbol.Word b) = sameb word.the_type a b
same_symbol (symbol.Truth a) (symbol.Truth b) = same_truth a b
same_symbol (symbol.Keyword a) (symbol.Keyword b) = sameb keyword.the_type a b
same_symbol (symbol.Open a) (symbol.Open b) = sameb bracket.the_type a b
same_symbol (symbol.Close a) (symbol.Close b) = sameb bracket.the_type a b
same_symbol a b = sameb any.the_type a b

-- the token is this sign
abbrev pub is_sign : Symbol → Token → Bool
is_sign v (t.Symbol s) = same_symbol s v
is_sign v _ = false

-- the next token is this sign
abbrev pub sees : Symbol → List Token → Bool
sees v [] = false
sees v (token ∷ rest) = is_sign v token
