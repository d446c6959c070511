-- How the text of a specification is laid out: any text, the line of MODULE, the header, the comment with the algorithm,
-- and any text up to the closing row. The header and the algorithm have tokens.
use Rattle.std.specs.Prelude.{◌≡◌, ◌≤◌, ◌+◌, ◌⊎◌, ℕ, suc, zero, Bool, true, false, ◌||◌, nat_eq, nat_le, IsTrue, List, [], ◌∷◌, ◌++◌, length, Some, None, Result, Ok, Err, codes}
use Rattle.pgo_model.specs.ValueText.{is_word_byte}
use Rattle.pgo_lexer.specs.declared.token.Token.{Token}
use Rattle.pgo_lexer.specs.declared.token.Token.TheVariants as t
use Rattle.pgo_lexer.specs.declared.token.Lexeme.{Lexeme}
use Rattle.pgo_lexer.specs.declared.symbol.Symbol.TheVariants as s
use Rattle.pgo_lexer.specs.declared.symbol.Bracket.TheVariants as b
use Rattle.pgo_lexer.specs.declared.errors.TextStop.{TextStop}
use Rattle.pgo_lexer.specs.declared.errors.TextStop.TheVariants.{Syntax, NoMemory}
use Rattle.pgo_lexer.specs.Lexemes.{all_are, Stops, IsPiece, Closes, opens, columns_behind}
use Rattle.pgo_lexer.specs.Layout.{Marks}
use Rattle.pgo_spec_text.specs.declared.parts.SpecTokens.{SpecTokens}

-- ---- words in a text

-- the bytes begin with this word, and it ends there
pub record BeginsWith (word bytes : List ℕ) : Type 0 where
  pub behind : List ℕ
  pub both : bytes ≡ word ++ behind
  pub ends : Stops is_word_byte behind

-- the word stands somewhere in the bytes
pub record Holds (word bytes : List ℕ) : Type 0 where
  pub before : List ℕ
  pub rest : List ℕ
  pub both : bytes ≡ before ++ rest
  pub here : BeginsWith word rest

-- `before` is all that stands before the first place that has the property
pub record IsFirst (Has : (before rest : List ℕ) → Type 0) (before rest : List ℕ) : Type 0 where
  pub here : Has before rest
  pub first : (earlier later : List ℕ) → earlier ++ later ≡ before ++ rest → Has earlier later → length before ≤ length earlier

-- ---- the line of MODULE

-- space, tab or carriage return
abbrev pub is_space : ℕ → Bool
is_space b = nat_eq b 32 || (nat_eq b 9 || nat_eq b 13)

abbrev pub is_dash : ℕ → Bool
is_dash b = nat_eq b 45

-- nothing, or whole lines
abbrev pub IsLines : List ℕ → Type 0
IsLines bytes = (bytes ≡ []) ⊎ ((before : List ℕ) × (bytes ≡ before ++ 10 ∷ []))

-- whole lines, and blanks at the beginning of another
pub record IsBeforeLine (before : List ℕ) : Type 0 where
  pub lines : List ℕ
  pub blanks : List ℕ
  pub both : before ≡ lines ++ blanks
  pub are_lines : IsLines lines
  pub are_blanks : IsTrue (all_are is_space blanks)

-- four dashes or more, blanks or none, and the word MODULE
pub record OpensModule (bytes : List ℕ) : Type 0 where
  pub dashes : List ℕ
  pub blanks : List ℕ
  pub rest : List ℕ
  pub both : bytes ≡ dashes ++ (blanks ++ rest)
  pub are_dashes : IsTrue (all_are is_dash dashes)
  pub four : 4 ≤ length dashes
  pub are_blanks : IsTrue (all_are is_space blanks)
  pub word : BeginsWith (codes "MODULE") rest

-- a line of MODULE begins, after blanks, where `rest` begins
pub record IsModuleLine (before rest : List ℕ) : Type 0 where
  pub line : IsBeforeLine before
  pub word : OpensModule rest

-- ---- tokens of a part of the text

-- a token behind all bytes before it: its column is counted from the beginning of the line, its offset from that of the text
abbrev pub lexeme : (token : Token) → (before piece : List ℕ) → Lexeme
lexeme token before piece = record { token = token; column = columns_behind 0 before; start = length before; stop = length before + length piece }

-- the part that stands between `before` and `rest` is cut into pieces from the left, and has these tokens; what is passed over is allowed
pub data Cut (Allowed : List ℕ → Type 0) : (before part rest : List ℕ) → List Lexeme → Type 0 where
  end : {before rest : List ℕ} → Cut Allowed before [] rest []
  pass : {before : List ℕ} (piece : List ℕ) {part rest : List ℕ} {ls : List Lexeme} → IsPiece piece (part ++ rest) None → Allowed piece
      → Cut Allowed (before ++ piece) part rest ls → Cut Allowed before (piece ++ part) rest ls
  token : {before : List ℕ} (piece : List ℕ) {part rest : List ℕ} {ls : List Lexeme} {token : Token} → IsPiece piece (part ++ rest) (Some token)
      → Cut Allowed (before ++ piece) part rest ls → Cut Allowed before (piece ++ part) rest (lexeme token before piece ∷ ls)

-- identifiers of at most 128 bytes, neither `'` nor UNCHANGED
abbrev pub is_allowed : Token → Bool
is_allowed (t.Name x) = nat_le (length x) 128
is_allowed (t.Symbol s.Prime) = false
is_allowed (t.Symbol s.Unchanged) = false
is_allowed _ = true

abbrev pub AllAllowed : List Lexeme → Type 0
AllAllowed [] = Unit {0}
AllAllowed (l ∷ ls) = IsTrue (is_allowed l.token) × AllAllowed ls

-- ---- the comment with the algorithm

abbrev pub mpcal : List ℕ
mpcal = codes "--mpcal"

-- a comment, from `(*` to its `*)`
pub record IsComment (bytes : List ℕ) : Type 0 where
  pub text : List ℕ
  pub both : bytes ≡ 40 ∷ 42 ∷ text
  pub closes : Closes 1 text

-- a comment of the header holds no algorithm
abbrev pub HasNoAlgorithm : List ℕ → Type 0
HasNoAlgorithm piece = opens piece ≡ true → Holds mpcal piece → ⊥

-- any comment may stand in an algorithm
abbrev pub Anything : List ℕ → Type 0
Anything piece = Unit {0}

-- a comment is all that stands before its first `--mpcal`, the word, the body and `*)`
pub record IsAlgorithmComment (comment before body : List ℕ) : Type 0 where
  pub is_comment : IsComment comment
  pub both : comment ≡ before ++ (mpcal ++ (body ++ (42 ∷ 41 ∷ [])))
  pub first : IsFirst (λ earlier later. BeginsWith mpcal later) before (mpcal ++ (body ++ (42 ∷ 41 ∷ [])))

-- ---- the end of the algorithm

abbrev pub is_open_brace : Token → Bool
is_open_brace (t.Symbol (s.Open b.Curly)) = true
is_open_brace _ = false

abbrev pub is_close_brace : Token → Bool
is_close_brace (t.Symbol (s.Close b.Curly)) = true
is_close_brace _ = false

-- these tokens close so many `{`, the last one by their last token
pub data ClosesBraces : ℕ → List Lexeme → Type 0 where
  closed : ClosesBraces zero []
  open_one : {n : ℕ} {l : Lexeme} {ls : List Lexeme} → is_open_brace l.token ≡ true → ClosesBraces (suc (suc n)) ls → ClosesBraces (suc n) (l ∷ ls)
  close_one : {n : ℕ} {l : Lexeme} {ls : List Lexeme} → is_close_brace l.token ≡ true → ClosesBraces n ls → ClosesBraces (suc n) (l ∷ ls)
  other : {n : ℕ} {l : Lexeme} {ls : List Lexeme} → is_open_brace l.token ≡ false → is_close_brace l.token ≡ false → ClosesBraces (suc n) ls → ClosesBraces (suc n) (l ∷ ls)

-- the last of these tokens is the `}` that matches their first `{`
pub data EndsWithBrace : List Lexeme → Type 0 where
  first : {l : Lexeme} {ls : List Lexeme} → is_open_brace l.token ≡ true → ClosesBraces 1 ls → EndsWithBrace (l ∷ ls)
  before : {l : Lexeme} {ls : List Lexeme} → is_open_brace l.token ≡ false → EndsWithBrace ls → EndsWithBrace (l ∷ ls)

-- ---- the whole

-- the most tokens: those of the header, those behind `--mpcal`, and the closing row as one
abbrev pub most_tokens : ℕ
most_tokens = 262144

-- a row of four or more `=` stands in the bytes
pub record ClosingRow (bytes : List ℕ) : Type 0 where
  pub before : List ℕ
  pub behind : List ℕ
  pub both : bytes ≡ before ++ (codes "====" ++ behind)

-- the header stands between `before` and `rest`, and has these tokens
pub record IsHeader (before part rest : List ℕ) (unmarked marked : List Lexeme) : Type 0 where
  pub line : IsFirst IsModuleLine before (part ++ rest)
  pub cut : Cut HasNoAlgorithm before part rest unmarked
  pub allowed : AllAllowed unmarked
  pub marks : Marks unmarked marked

-- the algorithm stands between `before` and `rest`, and has these tokens
pub record IsAlgorithm (before part rest : List ℕ) (unmarked marked : List Lexeme) : Type 0 where
  pub cut : Cut Anything before part rest unmarked
  pub ends : EndsWithBrace unmarked
  pub allowed : AllAllowed unmarked
  pub marks : Marks unmarked marked

-- a text is: any text; the header, from the dashes of the line of MODULE on; a comment with the algorithm behind its first
-- `--mpcal` and anything behind that; any text with a closing row
pub record IsSpecText (text : List ℕ) (header algorithm : List Lexeme) : Type 0 where
  pub before : List ℕ
  pub head : List ℕ
  pub opening : List ℕ
  pub part : List ℕ
  pub passed : List ℕ
  pub comment : List ℕ
  pub behind : List ℕ
  pub unmarked_header : List Lexeme
  pub unmarked_algorithm : List Lexeme
  pub both : text ≡ before ++ (head ++ (comment ++ behind))
  pub is_header : IsHeader before head (comment ++ behind) unmarked_header header
  pub is_comment : IsAlgorithmComment comment opening (part ++ passed)
  pub is_algorithm : IsAlgorithm (before ++ (head ++ (opening ++ mpcal))) part passed unmarked_algorithm algorithm
  pub closing : ClosingRow behind
  pub few : length unmarked_header + length unmarked_algorithm + 1 ≤ most_tokens

-- an answer is these lists, unless memory ran out
abbrev pub IsOrNoMemory : Result SpecTokens TextStop → (header algorithm : List Lexeme) → Type 0
IsOrNoMemory (Ok p) header algorithm = (p.header ≡ header) × (p.algorithm ≡ algorithm)
IsOrNoMemory (Err (Syntax offset)) header algorithm = ⊥
IsOrNoMemory (Err NoMemory) header algorithm = Unit {0}
