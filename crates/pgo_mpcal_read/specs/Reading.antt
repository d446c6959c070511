-- The reader as functions on lists of tokens, in the shape of the code: what it reads, and the tokens behind it.
use Rattle.std.specs.Prelude.{◌≡◌, ℕ, pos, ◌-◌, Bool, false, if◌then◌else◌, List, [], ◌∷◌, ◌++◌, length, drop, take, Option, Some, None, Result, Ok, Err}
use Rattle.pgo_base.specs.Tree.{Tree}
use Rattle.pgo_lexer.specs.declared.token.Lexeme.{Lexeme}
use Rattle.pgo_lexer.specs.declared.token.Token.{Token}
use Rattle.pgo_lexer.specs.declared.token.Token.TheVariants as t
use Rattle.pgo_lexer.specs.declared.errors.TextStop.{TextStop}
use Rattle.pgo_lexer.specs.declared.errors.TextStop.TheVariants.{Syntax, NoMemory}
use Rattle.pgo_expr_read.specs.declared.read.Read.{Read}
use Rattle.pgo_expr_read.specs.Lookahead.{tokens_of, is_name}
use Rattle.pgo_expr_read.specs.Reading as expression_reading
use Rattle.pgo_syntax.specs.declared.name.PlacedName.{PlacedName}
use Rattle.pgo_lexer.specs.declared.symbol.Symbol.{Symbol}
use Rattle.pgo_lexer.specs.declared.symbol.Bracket.TheVariants as bracket
use Rattle.pgo_lexer.specs.declared.symbol.Symbol.TheVariants as symbol
use Rattle.pgo_expr_read.specs.Signs.{is_sign}
use Rattle.pgo_expr_read.specs.Steps as steps
use Rattle.pgo_expr_read.specs.Steps.{◌>>=◌, ◌>>◌, pure, skip, all_folded}
use Rattle.pgo_mpcal_read.specs.Signs.{sees}
use Rattle.pgo_mpcal_read.specs.Elements.{most_height, closes}

-- ---- parsers

abbrev pub Outcome : Type 0 → Type 0
Outcome A = steps.Outcome Lexeme A

abbrev pub Parser : Type 0 → Type 0
Parser A = steps.Parser Lexeme A

-- what only goes past tokens leaves what the function gives, unless memory runs out
abbrev pub Passes : Option (List Lexeme) → Result (Unit {0}) TextStop → List Lexeme → Type 0
Passes outcome (Ok u) new = outcome ≡ Some new
Passes outcome (Err (Syntax n)) new = outcome ≡ None
Passes outcome (Err NoMemory) new = Unit {0}

-- ---- single tokens

unfoldable pub past : Symbol → List Lexeme → List Lexeme
past v i = if sees v i then skip i else i

abbrev pub eat : Symbol → Parser Bool
eat v = λ i. Some (sees v i, past v i)

unfoldable pub expect : Symbol → Parser (Unit {0})
expect v = λ i. if sees v i then Some (tt, skip i) else None

-- a sign, and its place
unfoldable pub mark : Symbol → Parser ℕ
mark v [] = None
mark v (l ∷ rest) = if is_sign v l.token then Some (l.start, rest) else None

abbrev pub name_of : Token → ℕ → List Lexeme → Outcome PlacedName
name_of (t.Name x) start rest = Some (record { name = x; place = start }, rest)
name_of _ start rest = None

-- a name with its place
abbrev pub name : Parser PlacedName
name [] = None
name (l ∷ rest) = name_of l.token l.start rest

abbrev pub number_of : Token → List Lexeme → Outcome ℕ
number_of (t.Number (pos n)) rest = Some (n, rest)
number_of _ rest = None

abbrev pub number : Parser ℕ
number [] = None
number (l ∷ rest) = number_of l.token rest

abbrev pub sees_name : List Lexeme → Bool
sees_name [] = false
sees_name (l ∷ rest) = is_name l.token

-- the second token is this sign
abbrev pub sees_second : Symbol → List Lexeme → Bool
sees_second v i = sees v (skip i)

-- the place of the next token
abbrev pub place : List Lexeme → ℕ
place [] = 0
place (l ∷ rest) = l.start

-- ---- expressions

-- the tokens that are left of these where so many are left
abbrev pub left_of : List Lexeme → ℕ → List Lexeme
left_of i n = drop (length i - n) i

-- the tokens before those, where so many are left
abbrev pub without_last : List Lexeme → ℕ → List Lexeme
without_last i n = take (length i - n) i

-- the tokens before those that are left
abbrev pub front_of : List Lexeme → List Lexeme → List Lexeme
front_of i rest = without_last i (length rest)

abbrev pub on_tokens : List Lexeme → steps.Outcome Token (Read Tree) → Outcome Tree
on_tokens i (Some p) = Some (p.0.tree, left_of i (length p.1))
on_tokens i None = None

-- an expression that is no higher than the limit
unfoldable pub expression_within : (limit : ℕ) → Parser Tree
expression_within limit i = on_tokens i (expression_reading.expr limit 0 (tokens_of i))

abbrev pub expression : Parser Tree
expression = expression_within most_height

unfoldable pub range : Parser Tree
range i = on_tokens i (expression_reading.range most_height (expression_reading.expr most_height) 0 (tokens_of i))

-- ---- lists

-- one more item, behind a sign
unfoldable pub one_behind : {A : Type 0} → Symbol → Parser A → List A → Parser (List A)
one_behind v item all = do
  expect v
  a ← item
  pure (all ++ a ∷ [])

abbrev pub behind : {A : Type 0} → Symbol → Parser A → List A → Parser (List A)
behind v item first = all_folded (sees v) (one_behind v item) first

unfoldable pub items : {A : Type 0} → Symbol → Parser A → Parser (List A)
items v item = do
  first ← item
  behind v item (first ∷ [])

unfoldable pub some_in_brackets : {A : Type 0} → Parser A → Parser (List A)
some_in_brackets item = do
  all ← items symbol.Comma item
  expect (symbol.Close bracket.Round)
  pure all

unfoldable pub in_brackets : {A : Type 0} → Parser A → Parser (List A)
in_brackets item = do
  expect (symbol.Open bracket.Round)
  is_empty ← eat (symbol.Close bracket.Round)
  if is_empty then pure [] else some_in_brackets item

-- one more item
unfoldable pub one_more : {A : Type 0} → Parser A → List A → Parser (List A)
one_more item all = do
  a ← item
  pure (all ++ a ∷ [])

abbrev pub row : {A : Type 0} → (List Lexeme → Bool) → Parser A → Parser (List A)
row goes item = all_folded goes (one_more item) []

-- ---- what ends a statement or a declaration

-- a `;` behind these tokens, which may be left out where they end in a `}`
unfoldable pub ended : List Lexeme → List Lexeme → Option (List Lexeme)
ended i rest = if sees symbol.Semicolon rest then Some (skip rest) else if closes (front_of i rest) then Some rest else None
