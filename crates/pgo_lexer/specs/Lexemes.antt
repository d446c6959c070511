-- Which tokens a text has: its pieces one after another from the left, each of them a blank, a comment or a token.
use Rattle.std.specs.Prelude.{◌≡◌, ◌≤◌, ◌<◌, ◌+◌, ◌-◌, ◌%◌, ℕ, suc, zero, pos, Bool, true, false, not, ◌&&◌, ◌||◌, nat_eq, if◌then◌else◌, IsTrue, List, [], ◌∷◌, ◌++◌, length, fold, Option, Some, None}
use Rattle.pgo_model.specs.ValueText.{is_digit, is_letter, is_word_byte, is_identifier, most_name_bytes}
pub use Rattle.pgo_model.specs.ValueText.{number_from as value_from, number_of as value, is_printed}
use Rattle.pgo_lexer.specs.declared.token.Token.{Token}
use Rattle.pgo_lexer.specs.declared.token.Token.TheVariants as t
use Rattle.pgo_lexer.specs.declared.token.Lexeme.{Lexeme}
use Rattle.pgo_lexer.specs.declared.symbol.Symbol.{Symbol}
use Rattle.pgo_lexer.specs.declared.symbol.Symbol.TheVariants as s
use Rattle.pgo_lexer.specs.Symbols.{find, reserved, signs, slash_words, dollar_words}

-- ---- columns

-- the column behind a byte: 0 behind a newline, the next multiple of 8 behind a tab
unfoldable pub column_behind : (column byte : ℕ) → ℕ
column_behind c b = if nat_eq b 10 then 0 else if nat_eq b 9 then c + (8 - c % 8) else c + 1

abbrev pub columns_behind : (column : ℕ) → List ℕ → ℕ
columns_behind = fold column_behind

-- ---- runs of bytes

abbrev pub all_are : (ℕ → Bool) → List ℕ → Bool
all_are p [] = true
all_are p (b ∷ bs) = p b && all_are p bs

-- the text doesn't go on with such a byte
abbrev pub Stops : (ℕ → Bool) → List ℕ → Type 0
Stops p [] = Unit {0}
Stops p (b ∷ bs) = p b ≡ false

-- the longest run of such bytes
pub record IsRun (p : ℕ → Bool) (front rest : List ℕ) : Type 0 where
  pub all : IsTrue (all_are p front)
  pub longest : Stops p rest

abbrev pub is_blank : ℕ → Bool
is_blank b = nat_eq b 32 || (nat_eq b 9 || (nat_eq b 10 || nat_eq b 13))

-- a byte of the rest of a line
abbrev pub is_in_line : ℕ → Bool
is_in_line b = not (nat_eq b 10)

-- ---- comments

abbrev pub begins_with : (a b : ℕ) → List ℕ → Bool
begins_with a b (x ∷ (y ∷ bs)) = nat_eq x a && nat_eq y b
begins_with a b _ = false

-- `(*` and `*)`
abbrev pub opens : List ℕ → Bool
opens = begins_with 40 42

abbrev pub closes : List ℕ → Bool
closes = begins_with 42 41

-- these bytes close so many comments: read from the left without overlap, `(*` opens one more and `*)` closes one, and the last one is closed at their end
pub data Closes : ℕ → List ℕ → Type 0 where
  closed : Closes zero []
  open_one : {n : ℕ} {bs : List ℕ} → Closes (suc (suc n)) bs → Closes (suc n) (40 ∷ 42 ∷ bs)
  close_one : {n : ℕ} {bs : List ℕ} → Closes n bs → Closes (suc n) (42 ∷ 41 ∷ bs)
  other : {n b : ℕ} {bs : List ℕ} → opens (b ∷ bs) ≡ false → closes (b ∷ bs) ≡ false → Closes (suc n) bs → Closes (suc n) (b ∷ bs)

-- `\*`
abbrev pub opens_line : List ℕ → Bool
opens_line = begins_with 92 42

-- ---- numbers

abbrev pub largest : ℕ
largest = 9223372036854775807

-- ---- strings

-- a byte of a string that stands for itself
abbrev pub is_plain : ℕ → Bool
is_plain b = is_printed b && (not (nat_eq b 34) && not (nat_eq b 92))

-- the byte that `\"`, `\\`, `\n` or `\t` stands for
abbrev pub escaped : ℕ → Option ℕ
escaped b = if nat_eq b 34 || nat_eq b 92 then Some b else if nat_eq b 110 then Some 10 else if nat_eq b 116 then Some 9 else None

-- the bytes between quotes, and the string
pub data Quoted : List ℕ → List ℕ → Type 0 where
  none : Quoted [] []
  plain : {b : ℕ} {bs string : List ℕ} → is_plain b ≡ true → Quoted bs string → Quoted (b ∷ bs) (b ∷ string)
  escape : {b c : ℕ} {bs string : List ℕ} → escaped c ≡ Some b → Quoted bs string → Quoted (92 ∷ c ∷ bs) (b ∷ string)

-- ---- pieces

-- `\` before a letter
abbrev pub opens_word : List ℕ → Bool
opens_word (b ∷ (c ∷ bs)) = nat_eq b 92 && is_letter c
opens_word _ = false

-- the longest sign that the text begins with, where the text begins no comment and no word
pub record IsSign (front rest : List ℕ) (symbol : Symbol) : Type 0 where
  pub found : find front signs ≡ Some symbol
  pub longest : (more behind : List ℕ) → rest ≡ more ++ behind → 0 < length more → find (front ++ more) signs ≡ None
  pub no_comment : opens (front ++ rest) ≡ false
  pub no_line : opens_line (front ++ rest) ≡ false
  pub no_word : opens_word (front ++ rest) ≡ false

-- a piece before the rest of a text, and the token that it is, or none for a blank or a comment
pub data IsPiece : (front rest : List ℕ) → Option Token → Type 0 where
  blank : {b : ℕ} {rest : List ℕ} → is_blank b ≡ true → IsPiece (b ∷ []) rest None
  line : {bs rest : List ℕ} → IsRun is_in_line bs rest → IsPiece (92 ∷ 42 ∷ bs) rest None
  comment : {bs rest : List ℕ} → Closes 1 bs → IsPiece (40 ∷ 42 ∷ bs) rest None
  number : {b : ℕ} {bs rest : List ℕ} → IsRun is_word_byte (b ∷ bs) rest → IsTrue (all_are is_digit (b ∷ bs)) → value (b ∷ bs) ≤ largest
      → IsPiece (b ∷ bs) rest (Some (t.Number (pos (value (b ∷ bs)))))
  word : {bs rest : List ℕ} {symbol : Symbol} → IsRun is_word_byte bs rest → find bs reserved ≡ Some symbol → IsPiece bs rest (Some (t.Symbol symbol))
  name : {bs rest : List ℕ} → IsRun is_word_byte bs rest → IsTrue (is_identifier bs) → length bs ≤ most_name_bytes → IsPiece bs rest (Some (t.Name bs))
  underscore : {rest : List ℕ} → Stops is_word_byte rest → IsPiece (95 ∷ []) rest (Some (t.Symbol s.Underscore))
  string : {bs string rest : List ℕ} → Quoted bs string → IsPiece (34 ∷ (bs ++ 34 ∷ [])) rest (Some (t.Text string))
  slashed : {bs rest : List ℕ} {symbol : Symbol} → IsRun is_letter bs rest → find bs slash_words ≡ Some symbol → IsPiece (92 ∷ bs) rest (Some (t.Symbol symbol))
  dollar : {bs rest : List ℕ} {symbol : Symbol} → IsRun is_word_byte bs rest → find bs dollar_words ≡ Some symbol → IsPiece (36 ∷ bs) rest (Some (t.Symbol symbol))
  sign : {front rest : List ℕ} {symbol : Symbol} → IsSign front rest symbol → IsPiece front rest (Some (t.Symbol symbol))

-- ---- the text

-- the tokens of a text whose first byte stands in this column and at this offset
pub data Lexes : (column offset : ℕ) → List ℕ → List Lexeme → Type 0 where
  end : {column offset : ℕ} → Lexes column offset [] []
  pass : {column offset : ℕ} (front : List ℕ) {rest : List ℕ} {ls : List Lexeme} → IsPiece front rest None
      → Lexes (columns_behind column front) (offset + length front) rest ls → Lexes column offset (front ++ rest) ls
  token : {column offset : ℕ} (front : List ℕ) {rest : List ℕ} {ls : List Lexeme} {token : Token} → IsPiece front rest (Some token)
      → Lexes (columns_behind column front) (offset + length front) rest ls
      → Lexes column offset (front ++ rest) (record { token = token; column = column; start = offset; stop = offset + length front } ∷ ls)
