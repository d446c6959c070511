-- The tokens of a text, with the marks of its junction lists.
use Rattle.std.specs.Prelude.{◌≡◌, ◌≤◌, ◌<◌, ◌+◌, ℕ, List, [], ◌∷◌, length, Result, Ok, Err}
use Rattle.pgo_lexer.specs.declared.token.Lexeme.{Lexeme}
use Rattle.pgo_lexer.specs.declared.errors.TextStop.{TextStop}
use Rattle.pgo_lexer.specs.declared.errors.TextStop.TheVariants.{Syntax, NoMemory}
use Rattle.pgo_lexer.specs.Lexemes.{Lexes}
use Rattle.pgo_lexer.specs.Layout.{Marks}

-- the text has these tokens, of which no more than the limit are no marks
pub record Tokenized (limit : ℕ) (text : List ℕ) (tokens : List Lexeme) : Type 0 where
  pub unmarked : List Lexeme
  pub lexed : Lexes 0 0 text unmarked
  pub few : length unmarked ≤ limit
  pub marked : Marks unmarked tokens

-- an answer is these tokens, unless memory ran out
abbrev pub IsOrNoMemory : Result (List Lexeme) TextStop → List Lexeme → Type 0
IsOrNoMemory (Ok tokens) wanted = tokens ≡ wanted
IsOrNoMemory (Err (Syntax offset)) wanted = ⊥
IsOrNoMemory (Err NoMemory) wanted = Unit {0}

-- the spans of these tokens stand one behind another from the offset on, and within so many bytes of text
abbrev pub SpansTo : (offset : ℕ) → List Lexeme → (end : ℕ) → Type 0
SpansTo offset [] end = offset ≤ end
SpansTo offset (l ∷ ls) end = (offset ≤ l.start) × ((l.start < l.stop) × SpansTo l.stop ls end)

abbrev pub Spans : (offset : ℕ) → List ℕ → List Lexeme → Type 0
Spans offset text tokens = SpansTo offset tokens (offset + length text)
