-- The tokens of a module's text as functions on lists, in the shape of the code.
use Rattle.std.specs.Prelude.{ℕ, zero, suc, ◌+◌, ◌-◌, Bool, true, false, ◌&&◌, nat_eq, if◌then◌else◌, List, [], length, take, drop, Option, Some, None}
use Rattle.pgo_lexer.specs.declared.token.Token.{Token}
use Rattle.pgo_lexer.specs.declared.token.Lexeme.{Lexeme}
use Rattle.pgo_lexer.specs.Lexemes.{columns_behind}
use Rattle.pgo_lexer.specs.Lexing.{and_then, added}
use Rattle.pgo_lexer.specs.Marking.{marked}
use Rattle.pgo_lexer.specs.Pieces.{first_piece}
use Rattle.pgo_expr_read.specs.Texts.{most_tokens}
use Rattle.pgo_spec_text.specs.Cutting.{column_at}
use Rattle.pgo_spec_text.specs.Searching.{module_from}
use Rattle.pgo_module_spells.specs.Spells.{is_defines}

-- where the last token stops, if it is a `==`; this piece is behind it
abbrev pub row_behind : Option ℕ → (stop : ℕ) → Option Token → Option ℕ
row_behind row stop None = row
row_behind row stop (Some token) = if is_defines token then Some stop else None

-- the token that begins here is a `==`, and the last one is another that stops here
abbrev pub touches : Option ℕ → (start : ℕ) → Token → Bool
touches None start token = false
touches (Some stop) start token = is_defines token && nat_eq start stop

abbrev pub is_last : Option ℕ → (start : ℕ) → Option Token → Bool
is_last row start None = false
is_last row start (Some token) = touches row start token

-- the tokens up to the first two `==` that touch
unfoldable pub module_tokens : (limit turns : ℕ) → Option ℕ → (column at : ℕ) → List Lexeme → List ℕ → Option (List Lexeme)
module_tokens limit zero row column at done bs = None
module_tokens limit (suc n) row column at done bs =
    and_then (first_piece bs) (λ p. and_then (added limit column at done p.length p.token) (λ more.
    if is_last row at p.token then Some more
    else module_tokens limit n (row_behind row (at + p.length) p.token) (columns_behind column (take p.length bs)) (at + p.length) more (drop p.length bs)))

-- the tokens with their marks, where the line of MODULE begins at an offset
unfoldable pub from_module : List ℕ → (start : ℕ) → Option (List Lexeme)
from_module text start = and_then (module_tokens most_tokens (length text) None (column_at text start) start [] (drop start text)) marked

abbrev pub cut : List ℕ → Option (List Lexeme)
cut text = and_then (module_from true text) (λ rest. from_module text (length text - length rest))
