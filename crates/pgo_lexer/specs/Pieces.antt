-- The pieces of a text as functions on lists, in the shape of the code.
use Rattle.std.specs.Prelude.{◌≤◌, ◌<◌, ◌+◌, ◌-◌, ◌*◌, ℕ, suc, zero, pos, Bool, false, nat_eq, nat_le, nat_lt, if◌then◌else◌, List, [], ◌∷◌, ◌++◌, length, take, drop, Option, Some, None, codes}
use Rattle.std.specs.List.{prefix_len}
use Rattle.pgo_model.specs.ValueText.{is_digit, is_letter, is_word_byte, has_letter, same_bytes, most_name_bytes}
use Rattle.pgo_lexer.specs.declared.token.Token.{Token}
use Rattle.pgo_lexer.specs.declared.token.Token.TheVariants as t
use Rattle.pgo_lexer.specs.declared.symbol.Symbol.{Symbol}
use Rattle.pgo_lexer.specs.declared.symbol.Symbol.TheVariants as s
use Rattle.pgo_lexer.specs.declared.piece.Piece.{Piece}
use Rattle.pgo_lexer.specs.declared.string.Char.{Char}
use Rattle.pgo_lexer.specs.declared.string.Char.TheVariants as char
use Rattle.pgo_lexer.specs.Symbols.{find, reserved, signs, slash_words, dollar_words}
use Rattle.pgo_lexer.specs.Lexemes.{all_are, is_blank, is_in_line, opens, closes, opens_line, opens_word, largest, is_plain, escaped}

abbrev pub begins : (ℕ → Bool) → List ℕ → Bool
begins p [] = false
begins p (b ∷ bs) = p b

abbrev pub is_quote : ℕ → Bool
is_quote b = nat_eq b 34

abbrev pub is_dollar : ℕ → Bool
is_dollar b = nat_eq b 36

abbrev pub piece_of : ℕ → Option Token → Piece
piece_of n token = record { length = n; token = token }

abbrev pub token_piece : ℕ → Option Token → Option Piece
token_piece n None = None
token_piece n (Some token) = Some (piece_of n (Some token))

abbrev pub symbol_piece : ℕ → Option Symbol → Option Piece
symbol_piece n None = None
symbol_piece n (Some symbol) = Some (piece_of n (Some (t.Symbol symbol)))

-- ---- words and numbers

-- the value of digits behind those of n, where it is no larger than the largest
abbrev pub number_from : ℕ → List ℕ → Option ℕ
number_from n [] = Some n
number_from n (b ∷ bs) = if nat_lt largest (n * 10 + (b - 48)) then None else number_from (n * 10 + (b - 48)) bs

abbrev pub number_token : Option ℕ → Option Token
number_token None = None
number_token (Some n) = Some (t.Number (pos n))

abbrev pub number : List ℕ → Option Token
number digits = number_token (number_from 0 digits)

abbrev pub named_by : List ℕ → Option Symbol → Option Token
named_by word (Some symbol) = Some (t.Symbol symbol)
named_by word None = if nat_le (length word) most_name_bytes then Some (t.Name word) else None

unfoldable pub named : List ℕ → Option Token
named word = named_by word (find word reserved)

unfoldable pub word_token : List ℕ → Option Token
word_token word =
    if all_are is_digit word then number word
    else if has_letter word then named word
    else if same_bytes word (codes "_") then Some (t.Symbol s.Underscore)
    else None

unfoldable pub word : List ℕ → Option Piece
word bs = token_piece (prefix_len is_word_byte bs) (word_token (take (prefix_len is_word_byte bs) bs))

-- ---- strings

abbrev pub escape : Option ℕ → Char
escape (Some b) = char.Byte b 2
escape None = char.Bad

abbrev pub plain : ℕ → Char
plain b = if is_plain b then char.Byte b 1 else char.Bad

abbrev pub char_of : ℕ → List ℕ → Char
char_of b [] = if nat_eq b 34 then char.End else plain b
char_of b (c ∷ bs) = if nat_eq b 34 then char.End else if nat_eq b 92 then escape (escaped c) else plain b

-- what the bytes of a string go on with
unfoldable pub char_at : List ℕ → Char
char_at [] = char.Bad
char_at (b ∷ bs) = char_of b bs

abbrev pub AtMost : ℕ → Char → Type 0
AtMost n (char.Byte b k) = k ≤ n
AtMost n char.End = ⊥
AtMost n char.Bad = Unit {0}

abbrev pub Fits : Char → List ℕ → Type 0
Fits char.End bs = 0 < length bs
Fits (char.Byte b k) bs = k ≤ length bs
Fits char.Bad bs = Unit {0}

abbrev pub by_char : (ℕ → ℕ → Option (List ℕ × ℕ)) → List ℕ → ℕ → Char → Option (List ℕ × ℕ)
by_char go done at char.End = Some (done, at + 1)
by_char go done at (char.Byte b k) = go b k
by_char go done at char.Bad = None

-- the string behind what was read, and how many bytes were read up to its closing quote
unfoldable pub chars : (turns : ℕ) → List ℕ → ℕ → List ℕ → Option (List ℕ × ℕ)
chars zero done at bs = None
chars (suc n) done at bs = by_char (λ b k. chars n (done ++ b ∷ []) (at + k) (drop k bs)) done at (char_at bs)

abbrev pub string_piece : Option (List ℕ × ℕ) → Option Piece
string_piece None = None
string_piece (Some p) = Some (piece_of p.1 (Some (t.Text p.0)))

unfoldable pub string : List ℕ → Option Piece
string bs = string_piece (chars (length (drop 1 bs)) [] 1 (drop 1 bs))

-- ---- comments

-- what stands behind the end of so many open comments
unfoldable pub behind_comment : ℕ → List ℕ → Option (List ℕ)
behind_comment zero bs = Some bs
behind_comment (suc n) [] = None
behind_comment (suc n) (b ∷ []) = None
behind_comment (suc n) (b ∷ (c ∷ bs)) =
    if opens (b ∷ (c ∷ bs)) then behind_comment (suc (suc n)) bs
    else if closes (b ∷ (c ∷ bs)) then behind_comment n bs
    else behind_comment (suc n) (c ∷ bs)

abbrev pub comment_piece : ℕ → Option (List ℕ) → Option Piece
comment_piece n None = None
comment_piece n (Some rest) = Some (piece_of (n - length rest) None)

unfoldable pub comment : List ℕ → Option Piece
comment bs = comment_piece (length bs) (behind_comment 1 (drop 2 bs))

-- ---- words behind `\` and `$`, and signs

unfoldable pub slashed : List ℕ → Option Piece
slashed bs = symbol_piece (prefix_len is_letter (drop 1 bs) + 1) (find (take (prefix_len is_letter (drop 1 bs)) (drop 1 bs)) slash_words)

unfoldable pub dollar : List ℕ → Option Piece
dollar bs = symbol_piece (prefix_len is_word_byte (drop 1 bs) + 1) (find (take (prefix_len is_word_byte (drop 1 bs)) (drop 1 bs)) dollar_words)

abbrev pub sign_of : List ℕ → Option Piece
sign_of front = symbol_piece (length front) (find front signs)

abbrev pub or_else : Option Piece → Option Piece → Option Piece
or_else (Some p) other = Some p
or_else None other = other

-- the longest comes first
unfoldable pub sign : List ℕ → Option Piece
sign bs = or_else (sign_of (take 3 bs)) (or_else (sign_of (take 2 bs)) (sign_of (take 1 bs)))

-- ---- any piece

unfoldable pub first_piece : List ℕ → Option Piece
first_piece bs =
    if begins is_blank bs then Some (piece_of 1 None)
    else if begins is_word_byte bs then word bs
    else if begins is_quote bs then string bs
    else if begins is_dollar bs then dollar bs
    else if opens bs then comment bs
    else if opens_line bs then Some (piece_of (prefix_len is_in_line bs) None)
    else if opens_word bs then slashed bs
    else sign bs
