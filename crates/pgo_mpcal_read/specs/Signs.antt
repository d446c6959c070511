-- Signs and reserved words among tokens with places.
use Rattle.std.specs.Prelude.{Bool, false, List, [], ◌∷◌}
use Rattle.pgo_lexer.specs.declared.symbol.Symbol.{Symbol}
use Rattle.pgo_lexer.specs.declared.token.Lexeme.{Lexeme}
use Rattle.pgo_expr_read.specs.Signs.{is_sign}

-- the next token is this sign
abbrev pub sees : Symbol → List Lexeme → Bool
sees v [] = false
sees v (l ∷ rest) = is_sign v l.token
