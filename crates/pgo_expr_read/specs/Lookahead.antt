-- What the next tokens say of what may come.
use Rattle.std.specs.Prelude.{Bool, true, false, not, ◌&&◌, ◌||◌, if◌then◌else◌, List, [], ◌∷◌, Option, Some, None}
use Rattle.pgo_base.specs.declared.expr.Infix.TheVariants as op
use Rattle.pgo_base.specs.declared.expr.Prefix.TheVariants as pre
use Rattle.pgo_base.specs.declared.expr.Word.{Word}
use Rattle.pgo_base.specs.declared.expr.Word.TheVariants as w
use Rattle.pgo_lexer.specs.declared.symbol.Bracket.TheVariants as b
use Rattle.pgo_lexer.specs.declared.symbol.Symbol.{Symbol}
use Rattle.pgo_lexer.specs.declared.symbol.Symbol.TheVariants as s
use Rattle.pgo_lexer.specs.declared.token.Lexeme.{Lexeme}
use Rattle.pgo_lexer.specs.declared.token.Token.{Token}
use Rattle.pgo_lexer.specs.declared.token.Token.TheVariants as t
use Rattle.pgo_expr_read.specs.declared.table.Operator.TheVariants as operator
use Rattle.pgo_expr_read.specs.declared.lookahead.PrimaryForm.{PrimaryForm}
use Rattle.pgo_expr_read.specs.declared.lookahead.PrimaryForm.TheVariants as primaries
use Rattle.pgo_expr_read.specs.declared.lookahead.Opener.{Opener}
use Rattle.pgo_expr_read.specs.declared.lookahead.Opener.TheVariants as opener
use Rattle.pgo_expr_read.specs.declared.lookahead.Next.{Next}
use Rattle.pgo_expr_read.specs.declared.lookahead.Next.TheVariants as next
use Rattle.pgo_expr_read.specs.declared.lookahead.Square.{Square}
use Rattle.pgo_expr_read.specs.declared.lookahead.Square.TheVariants as square
use Rattle.pgo_expr_read.specs.Signs as signs
use Rattle.pgo_expr_read.specs.Signs.{is_sign}

-- the tokens without their places
abbrev pub tokens_of : List Lexeme → List Token
tokens_of [] = []
tokens_of (l ∷ ls) = l.token ∷ tokens_of ls

-- the next token is this sign
abbrev pub sees : Symbol → List Token → Bool
sees = signs.sees

-- the next token is the mark between the items of a junction list
abbrev pub sees_list_next : List Token → Bool
sees_list_next (t.ListNext ∷ rest) = true
sees_list_next _ = false

abbrev pub next_of_symbol : Symbol → Next
next_of_symbol (s.Infix op) = next.Operator (operator.Infix op)
next_of_symbol s.Product = next.Operator operator.Product
next_of_symbol (s.Open b.Square) = next.Index
next_of_symbol (s.Open b.Round) = next.Tight
next_of_symbol s.Dot = next.Field
next_of_symbol s.Box = next.Arm
next_of_symbol s.Prime = next.Tight
next_of_symbol _ = next.End

abbrev pub next_of : Token → Next
next_of (t.Symbol s) = next_of_symbol s
next_of _ = next.End

-- how the tokens go on behind an operand
abbrev pub after : List Token → Next
after [] = next.End
after (token ∷ rest) = next_of token

abbrev pub primary_of_symbol : Symbol → PrimaryForm
primary_of_symbol (s.Truth b) = primaries.Truth b
primary_of_symbol s.At = primaries.At
primary_of_symbol (s.Word w.BooleanSet) = primaries.Boolean
primary_of_symbol (s.Infix op.Subtract) = primaries.Prefix pre.Minus
primary_of_symbol (s.Prefix pre.Minus) = primaries.None
primary_of_symbol (s.Prefix p) = primaries.Prefix p
primary_of_symbol (s.Open b.Angle) = primaries.Tuple
primary_of_symbol (s.Open b.Curly) = primaries.Set
primary_of_symbol (s.Open b.Square) = primaries.Square
primary_of_symbol (s.Quantifier q) = primaries.Quantifier q
primary_of_symbol s.Choose = primaries.Choose
primary_of_symbol s.If = primaries.If
primary_of_symbol s.Case = primaries.Case
primary_of_symbol s.Let = primaries.Let
primary_of_symbol s.Unchanged = primaries.Unchanged
primary_of_symbol s.Variable = primaries.Variable
primary_of_symbol s.Value = primaries.Value
primary_of_symbol _ = primaries.None

abbrev pub primary_of : Token → PrimaryForm
primary_of (t.Name x) = primaries.Name
primary_of (t.Number n) = primaries.Number n
primary_of (t.Text x) = primaries.Text
primary_of (t.Symbol s) = primary_of_symbol s
primary_of _ = primaries.None

-- how the tokens begin an expression
abbrev pub begin : List Token → PrimaryForm
begin [] = primaries.None
begin (token ∷ rest) = primary_of token

-- what opens an expression that makes no node of its own
abbrev pub opener_of : Token → Option Opener
opener_of (t.Symbol (s.Open b.Round)) = Some opener.Round
opener_of (t.ListOpen op) = Some (opener.List op)
opener_of _ = None

abbrev pub opens : List Token → Option Opener
opens [] = None
opens (token ∷ rest) = opener_of token

-- what the first two tokens behind a `[` say of its form
abbrev pub square_of : Token → Square
square_of (t.Symbol s.MapsTo) = square.Record
square_of (t.Symbol s.Colon) = square.RecordSet
square_of (t.Symbol s.Comma) = square.Function
square_of (t.Symbol (s.Infix op.In)) = square.Function
square_of _ = square.Other

abbrev pub is_name : Token → Bool
is_name (t.Name x) = true
is_name _ = false

abbrev pub sees_name : List Token → Bool
sees_name [] = false
sees_name (token ∷ rest) = is_name token

abbrev pub form_of_second : List Token → Square
form_of_second [] = square.Other
form_of_second (second ∷ rest) = square_of second

abbrev pub form_of_square : List Token → Square
form_of_square [] = square.Other
form_of_square (first ∷ rest) = if is_name first then form_of_second rest else square.Other

-- `$variable` or `$value`, which stand in a mapping macro alone
abbrev pub is_mapped : Token → Bool
is_mapped (t.Symbol s.Variable) = true
is_mapped (t.Symbol s.Value) = true
is_mapped _ = false

-- one of them is among the tokens
abbrev pub has_mapped : List Token → Bool
has_mapped [] = false
has_mapped (token ∷ rest) = is_mapped token || has_mapped rest

-- the first two tokens are a name and `\in`
abbrev pub begins_binder : List Token → Bool
begins_binder [] = false
begins_binder (first ∷ rest) = is_name first && sees (s.Infix op.In) rest

-- a guarded arm of a CASE is next
abbrev pub sees_arm : List Token → Bool
sees_arm [] = false
sees_arm (first ∷ rest) = is_sign s.Box first && not (sees s.Other rest)

abbrev pub endless_of : Token → Option Word
endless_of (t.Symbol (s.Word w.Nat)) = Some w.Nat
endless_of (t.Symbol (s.Word w.Int)) = Some w.Int
endless_of (t.Symbol (s.Word w.StringSet)) = Some w.StringSet
endless_of _ = None

-- `Nat`, `Int` or `STRING`, where one of them is next
abbrev pub endless : List Token → Option Word
endless [] = None
endless (token ∷ rest) = endless_of token
