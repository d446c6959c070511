-- What tokens are to junction lists.
use Rattle.std.specs.Prelude.{ℕ, Bool, true, false, nat_eq}
use Rattle.pgo_base.specs.declared.expr.Infix.TheVariants as op
use Rattle.pgo_lexer.specs.declared.token.Token.{Token}
use Rattle.pgo_lexer.specs.declared.token.Token.TheVariants as t
use Rattle.pgo_lexer.specs.declared.symbol.Symbol.{Symbol}
use Rattle.pgo_lexer.specs.declared.symbol.Symbol.TheVariants as s
use Rattle.pgo_lexer.specs.declared.symbol.Bracket.{Bracket}
use Rattle.pgo_lexer.specs.declared.symbol.Bracket.TheVariants as b
use Rattle.pgo_lexer.specs.declared.symbol.Junction.{Junction}
use Rattle.pgo_lexer.specs.declared.symbol.Junction.TheVariants as j
use Rattle.pgo_lexer.specs.declared.kind.Kind.{Kind}
use Rattle.pgo_lexer.specs.declared.kind.Kind.TheVariants as kind
use Rattle.pgo_lexer.specs.declared.kind.Role.{Role}
use Rattle.pgo_lexer.specs.declared.kind.Role.TheVariants as role

abbrev pub kind_of_symbol : Symbol → Kind
kind_of_symbol (s.Infix op.And) = kind.Junction j.And
kind_of_symbol (s.Infix op.Or) = kind.Junction j.Or
kind_of_symbol (s.Open b) = kind.Open b
kind_of_symbol (s.Close b) = kind.Close b
kind_of_symbol s.Semicolon = kind.Separator
kind_of_symbol _ = kind.Plain

-- a bracket, `/\` or `\/`, `;`, or any other token
abbrev pub kind_of : Token → Kind
kind_of (t.Symbol s) = kind_of_symbol s
kind_of _ = kind.Plain

-- `/\` or `\/` is a bullet where the token before it doesn't end an operand
abbrev pub role_of : (after_operand : Bool) → Kind → Role
role_of after (kind.Open b) = role.Open b
role_of after (kind.Close b) = role.Close b
role_of after kind.Separator = role.Separator
role_of after kind.Plain = role.Plain
role_of true (kind.Junction op) = role.Plain
role_of false (kind.Junction op) = role.Bullet op

abbrev pub symbol_ends_operand : Symbol → Bool
symbol_ends_operand (s.Truth b) = true
symbol_ends_operand (s.Word w) = true
symbol_ends_operand (s.Close b) = true
symbol_ends_operand s.At = true
symbol_ends_operand s.Prime = true
symbol_ends_operand s.Variable = true
symbol_ends_operand s.Value = true
symbol_ends_operand _ = false

abbrev pub ends_operand : Token → Bool
ends_operand (t.Name x) = true
ends_operand (t.Number n) = true
ends_operand (t.Text x) = true
ends_operand (t.Symbol s) = symbol_ends_operand s
ends_operand _ = false

-- tests of the marker
abbrev pub bracket_code : Bracket → ℕ
bracket_code b.Round = 0
bracket_code b.Square = 1
bracket_code b.Curly = 2
bracket_code b.Angle = 3

abbrev pub is_same_bracket : Bracket → Bracket → Bool
is_same_bracket a b = nat_eq (bracket_code a) (bracket_code b)

abbrev pub is_junction : Junction → Kind → Bool
is_junction j.And (kind.Junction j.And) = true
is_junction j.Or (kind.Junction j.Or) = true
is_junction _ _ = false
