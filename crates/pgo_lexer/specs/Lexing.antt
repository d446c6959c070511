-- The tokens of a text as a function on lists, in the shape of the code.
use Rattle.std.specs.Prelude.{ℕ, zero, suc, ◌+◌, nat_eq, nat_lt, if◌then◌else◌, List, [], ◌∷◌, ◌++◌, length, take, drop, Option, Some, None, option_and_then}
use Rattle.pgo_lexer.specs.declared.token.Token.{Token}
use Rattle.pgo_lexer.specs.declared.token.Lexeme.{Lexeme}
use Rattle.pgo_lexer.specs.Lexemes.{columns_behind}
use Rattle.pgo_lexer.specs.Pieces.{first_piece}

-- one step behind another, in the order of the text
abbrev pub and_then : {A B : Type 0} → Option A → (A → Option B) → Option B
and_then o f = option_and_then f o

-- one more token, if the limit allows it
abbrev pub added : (limit column start : ℕ) → List Lexeme → ℕ → Option Token → Option (List Lexeme)
added limit column start done n None = Some done
added limit column start done n (Some token) =
    if nat_lt (length done) limit then Some (done ++ record { token = token; column = column; start = start; stop = start + n } ∷ []) else None

abbrev pub when_empty : List ℕ → List Lexeme → Option (List Lexeme)
when_empty bs done = if nat_eq (length bs) 0 then Some done else None

-- the tokens of a text behind those that were read
unfoldable pub lexed : (limit turns column at : ℕ) → List Lexeme → List ℕ → Option (List Lexeme)
lexed limit zero column at done bs = when_empty bs done
lexed limit (suc n) column at done bs =
    if nat_eq (length bs) 0 then Some done
    else and_then (first_piece bs) (λ p. and_then (added limit column at done p.length p.token) (λ more. lexed limit n (columns_behind column (take p.length bs)) (at + p.length) more (drop p.length bs)))
