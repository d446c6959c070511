-- The tokens of a specification's text as functions on lists, in the shape of the code.
use Rattle.std.specs.Prelude.{ℕ, zero, suc, ◌+◌, ◌-◌, Bool, true, false, ◌&&◌, nat_eq, nat_lt, is_some, if◌then◌else◌, List, [], ◌∷◌, ◌++◌, length, take, drop, Option, Some, None}
use Rattle.pgo_lexer.specs.declared.token.Token.{Token}
use Rattle.pgo_lexer.specs.declared.token.Lexeme.{Lexeme}
use Rattle.pgo_lexer.specs.Lexemes.{columns_behind}
use Rattle.pgo_lexer.specs.Pieces.{first_piece}
use Rattle.pgo_lexer.specs.Lexing.{and_then}
use Rattle.pgo_lexer.specs.Marking.{marked}
use Rattle.pgo_spec_text.specs.declared.cut.Head.{Head}
use Rattle.pgo_spec_text.specs.declared.parts.SpecTokens.{SpecTokens}
use Rattle.pgo_spec_text.specs.SpecText.{is_allowed, is_open_brace, is_close_brace, most_tokens}
use Rattle.pgo_spec_text.specs.Searching.{module_from, inside, row_from}

-- one more token, if the limit allows it and a specification may have it
abbrev pub added : (limit column start : ℕ) → List Lexeme → ℕ → Option Token → Option (List Lexeme)
added limit column start done n None = Some done
added limit column start done n (Some token) =
    if is_allowed token && nat_lt (length done) limit then Some (done ++ record { token = token; column = column; start = start; stop = start + n } ∷ []) else None

-- ---- the header

-- the tokens up to the comment with the algorithm, and its offset
unfoldable pub header : (limit turns column at : ℕ) → List Lexeme → List ℕ → Option Head
header limit zero column at done bs = None
header limit (suc n) column at done bs =
    if is_some (inside bs) then Some (record { tokens = done; at = at })
    else and_then (first_piece bs) (λ p. and_then (added limit column at done p.length p.token) (λ more. header limit n (columns_behind column (take p.length bs)) (at + p.length) more (drop p.length bs)))

-- ---- the algorithm

-- how many `{` are open behind a piece
abbrev pub depth_behind : ℕ → Option Token → ℕ
depth_behind depth None = depth
depth_behind depth (Some token) = if is_open_brace token then depth + 1 else if is_close_brace token then depth - 1 else depth

-- the piece is the `}` that closes the first `{`
abbrev pub is_last : ℕ → Option Token → Bool
is_last depth None = false
is_last depth (Some token) = nat_eq depth 1 && is_close_brace token

-- the tokens up to the `}` that matches the first `{`
unfoldable pub algorithm : (limit turns depth column at : ℕ) → List Lexeme → List ℕ → Option (List Lexeme)
algorithm limit zero depth column at done bs = None
algorithm limit (suc n) depth column at done bs =
    and_then (first_piece bs) (λ p. and_then (added limit column at done p.length p.token) (λ more.
    if is_last depth p.token then Some more
    else algorithm limit n (depth_behind depth p.token) (columns_behind column (take p.length bs)) (at + p.length) more (drop p.length bs)))

-- ---- the whole

abbrev pub column_at : List ℕ → ℕ → ℕ
column_at text at = columns_behind 0 (take at text)

-- where the body of the algorithm's comment begins, by it and what stands behind the comment
abbrev pub body_start : List ℕ → (List ℕ × List ℕ) → ℕ
body_start text i = length text - (length i.0 + length i.1 + 2)

abbrev pub algorithm_in : List ℕ → ℕ → (List ℕ × List ℕ) → Option (List Lexeme)
algorithm_in text used i = algorithm (most_tokens - used) (length i.0) 0 (column_at text (body_start text i)) (body_start text i) [] i.0

abbrev pub closed_by : (room count : ℕ) → Option (List ℕ) → (header algorithm : List Lexeme) → Option SpecTokens
closed_by room count None header algorithm = None
closed_by room count (Some row) header algorithm = if nat_lt count room then Some (record { header = header; algorithm = algorithm }) else None

-- both lists, where the closing row stands behind them, and there is room for it besides so many tokens
unfoldable pub closed : (room count : ℕ) → List ℕ → (header algorithm : List Lexeme) → Option SpecTokens
closed room count rest header algorithm = closed_by room count (row_from rest) header algorithm

abbrev pub with_body : List ℕ → (used : ℕ) → List Lexeme → (List ℕ × List ℕ) → Option SpecTokens
with_body text used header i = and_then (algorithm_in text used i) (λ unmarked. and_then (marked unmarked) (λ algorithm. closed (most_tokens - used) (length unmarked) i.1 header algorithm))

-- the whole, where so many tokens stand before the comment at an offset
unfoldable pub with_comment : List ℕ → (used : ℕ) → List Lexeme → (at : ℕ) → Option SpecTokens
with_comment text used header at = and_then (inside (drop at text)) (with_body text used header)

-- the whole, where the line of MODULE begins at an offset
unfoldable pub from_module : List ℕ → (start : ℕ) → Option SpecTokens
from_module text start = and_then (header most_tokens (length text) (column_at text start) start [] (drop start text)) (λ h. and_then (marked h.tokens) (λ header. with_comment text (length h.tokens) header h.at))

abbrev pub cut : List ℕ → Option SpecTokens
cut text = and_then (module_from true text) (λ rest. from_module text (length text - length rest))
