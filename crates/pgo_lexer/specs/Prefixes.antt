-- The tokens of a text before a fault, and the same with the marks of junction lists.
use Rattle.std.specs.Prelude.{◌≡◌, ◌≤◌, ◌<◌, ◌+◌, ℕ, List, [], ◌∷◌, ◌++◌, length, map, Option, Some, None}
use Rattle.std.specs.List.{All}
use Rattle.pgo_lexer.specs.declared.token.Token.{Token}
use Rattle.pgo_lexer.specs.declared.token.Lexeme.{Lexeme}
use Rattle.pgo_lexer.specs.declared.symbol.Bracket.{Bracket}
use Rattle.pgo_lexer.specs.declared.before.Before.{Before}
use Rattle.pgo_lexer.specs.Lexemes.{IsPiece, columns_behind}
use Rattle.pgo_lexer.specs.Layout.{Marks}
use Rattle.pgo_lexer.specs.Ends.{end_of}

-- ---- tokens

-- the token that a piece of so many bytes is, or none
abbrev pub token_of : (column start : ℕ) → ℕ → Option Token → List Lexeme
token_of column start n None = []
token_of column start n (Some token) = record { token = token; column = column; start = start; stop = start + n } ∷ []

-- no piece stands at the beginning of these bytes
abbrev pub BeginsNoPiece : List ℕ → Type 0
BeginsNoPiece bytes = (front rest : List ℕ) (o : Option Token) → bytes ≡ front ++ rest → IsPiece front rest o → ⊥

-- the tokens of a text, whose first byte stands in this column and at this offset, that begin before the offset `end`, or
-- before the first byte at which no piece stands
pub data LexesTo (end : ℕ) : (column offset : ℕ) → List ℕ → List Lexeme → Type 0 where
  reached : {column offset : ℕ} {text : List ℕ} → end ≤ offset → LexesTo end column offset text []
  stopped : {column offset : ℕ} {text : List ℕ} → BeginsNoPiece text → LexesTo end column offset text []
  pass : {column offset : ℕ} (front : List ℕ) {rest : List ℕ} {ls : List Lexeme} → offset < end → IsPiece front rest None
      → LexesTo end (columns_behind column front) (offset + length front) rest ls → LexesTo end column offset (front ++ rest) ls
  token : {column offset : ℕ} (front : List ℕ) {rest : List ℕ} {ls : List Lexeme} {token : Token} → offset < end → IsPiece front rest (Some token)
      → LexesTo end (columns_behind column front) (offset + length front) rest ls
      → LexesTo end column offset (front ++ rest) (record { token = token; column = column; start = offset; stop = offset + length front } ∷ ls)

-- ---- marks

-- of tokens that begin before a fault, those that are taken, and those that are left: none, or one behind the fault comes
-- next, or one before it, which can't stand at its place whatever tokens follow, so that the fault is there
pub data StopsAt (fault : ℕ) (taken : List Lexeme) : (left : List Lexeme) → (first : ℕ) → Type 0 where
  all : StopsAt fault taken [] fault
  reached : {r : Lexeme} {rs : List Lexeme} → fault ≤ r.start → StopsAt fault taken (r ∷ rs) fault
  refused : {r : Lexeme} {rs : List Lexeme} → r.start < fault → ((more ms : List Lexeme) → Marks (taken ++ r ∷ more) ms → ⊥) → StopsAt fault taken (r ∷ rs) r.start

-- the tokens up to a fault, or to an earlier one of the brackets and junction lists: with the ends of the brackets that are
-- open there, they are these with their marks
pub record IsMarkedTo (fault : ℕ) (tokens : List Lexeme) (b : Before) : Type 0 where
  pub taken : List Lexeme
  pub left : List Lexeme
  pub brackets : List Bracket
  pub both : tokens ≡ taken ++ left
  pub before : All (λ t. t.start < fault) taken
  pub marked : Marks (taken ++ map (end_of b.fault) brackets) b.tokens
  pub stops : StopsAt fault taken left b.fault

-- tokens whose columns are counted
abbrev pub AreCounted : List Lexeme → Type 0
AreCounted = All (λ t. t.column < 18446744073709551615)

-- the tokens of a text before a fault, with their marks
pub record AreTokensBefore (text : List ℕ) (fault : ℕ) (b : Before) : Type 0 where
  pub unmarked : List Lexeme
  pub lexed : LexesTo fault 0 0 text unmarked
  pub marked : IsMarkedTo fault unmarked b
