-- What the rules of a specification are made of: tokens at their places, names, expressions and lists.
use Rattle.std.specs.Prelude.{◌≡◌, ℕ, pos, ◌≤◌, Bool, true, false, List, [], ◌∷◌, ◌++◌}
use Rattle.pgo_base.specs.Tree.{Tree}
use Rattle.pgo_lexer.specs.declared.symbol.Bracket.TheVariants as bracket
use Rattle.pgo_lexer.specs.declared.symbol.Symbol.TheVariants as symbol
use Rattle.pgo_lexer.specs.declared.token.Lexeme.{Lexeme}
use Rattle.pgo_lexer.specs.declared.token.Token.{Token}
use Rattle.pgo_lexer.specs.declared.token.Token.TheVariants as t
use Rattle.pgo_expr_read.specs.Heights.{height}
use Rattle.pgo_expr_read.specs.Kinds.{Name}
use Rattle.pgo_expr_read.specs.Lookahead.{tokens_of}
use Rattle.pgo_expr_read.specs.Spells as expression
use Rattle.pgo_syntax.specs.declared.name.PlacedName.{PlacedName}
use Rattle.pgo_lexer.specs.declared.symbol.Symbol.{Symbol}

-- ---- tokens

-- where a token stands
pub record Spot : Type 0 where
  pub column : ℕ
  pub start : ℕ
  pub stop : ℕ

abbrev pub lexeme : Spot → Token → Lexeme
lexeme p k = record { token = k; column = p.column; start = p.start; stop = p.stop }

-- a sign, a name and a number at their places
abbrev pub at : Spot → Symbol → Lexeme
at p v = lexeme p (t.Symbol v)

abbrev pub word : Spot → Name → Lexeme
word p x = lexeme p (t.Name x)

abbrev pub numeral : Spot → ℕ → Lexeme
numeral p n = lexeme p (t.Number (pos n))

-- a name with its place, the offset of its first byte
abbrev pub placed : Spot → Name → PlacedName
placed p x = record { name = x; place = p.start }

-- the last token is a `}`; marks behind it count for nothing. `before` says it of the tokens before these.
abbrev pub closes_behind : (before : Bool) → Token → Bool
closes_behind before (t.Symbol (symbol.Close bracket.Curly)) = true
closes_behind before t.ListClose = before
closes_behind before _ = false

abbrev pub closes_from : (before : Bool) → List Lexeme → Bool
closes_from before [] = before
closes_from before (l ∷ ls) = closes_from (closes_behind before l.token) ls

abbrev pub closes : List Lexeme → Bool
closes = closes_from false

-- what ends a statement or a declaration: a `;`, which may be left out behind a `}`
pub data Ended (ts : List Lexeme) : List Lexeme → Type 0 where
  semicolon : {p : Spot} → Ended ts (at p symbol.Semicolon ∷ [])
  brace : closes ts ≡ true → Ended ts []

-- ---- names and expressions

pub data IsName : List Lexeme → PlacedName → Type 0 where
  name : {p : Spot} {x : Name} → IsName (word p x ∷ []) (placed p x)

-- the greatest height of an expression, and the greatest depth of a statement
abbrev pub most_height : ℕ
most_height = 128

abbrev pub most_depth : ℕ
most_depth = 128

-- an expression no higher than the limit
pub record IsExpressionWithin (limit : ℕ) (ts : List Lexeme) (a : Tree) : Type 0 where
  pub spells : expression.Spells limit (tokens_of ts) a

abbrev pub IsExpression : List Lexeme → Tree → Type 0
IsExpression = IsExpressionWithin most_height

-- what stands at the right of a `\in`: an expression, or `Nat`, `Int` or `STRING` alone
pub record IsRange (ts : List Lexeme) (a : Tree) : Type 0 where
  pub range : expression.Range (tokens_of ts) a
  pub low : height a ≤ most_height

-- ---- lists

-- items, each behind this sign
pub data Behind {A : Type 0} (Item : List Lexeme → A → Type 0) (v : Symbol) : List Lexeme → List A → Type 0 where
  no_more : Behind Item v [] []
  one_more : {p : Spot} {xs ys : List Lexeme} {a : A} {as' : List A} → Item xs a → Behind Item v ys as' → Behind Item v (at p v ∷ (xs ++ ys)) (a ∷ as')

-- one item or more, with this sign between two
pub data Items {A : Type 0} (Item : List Lexeme → A → Type 0) (v : Symbol) : List Lexeme → List A → Type 0 where
  items : {xs ys : List Lexeme} {a : A} {as' : List A} → Item xs a → Behind Item v ys as' → Items Item v (xs ++ ys) (a ∷ as')

-- in `( )`: no item, or items with commas between them
pub data InBrackets {A : Type 0} (Item : List Lexeme → A → Type 0) : List Lexeme → List A → Type 0 where
  empty : {o c : Spot} → InBrackets Item (at o (symbol.Open bracket.Round) ∷ (at c (symbol.Close bracket.Round) ∷ [])) []
  some : {o : Spot} (c : Spot) {xs : List Lexeme} {as' : List A} → Items Item symbol.Comma xs as' → InBrackets Item (at o (symbol.Open bracket.Round) ∷ (xs ++ (at c (symbol.Close bracket.Round) ∷ []))) as'

-- items one behind another
pub data Row {A : Type 0} (Item : List Lexeme → A → Type 0) : List Lexeme → List A → Type 0 where
  nothing : Row Item [] []
  another : {xs ys : List Lexeme} {a : A} {as' : List A} → Item xs a → Row Item ys as' → Row Item (xs ++ ys) (a ∷ as')
