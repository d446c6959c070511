-- How statements begin.
use Rattle.std.proofs.Common.{◌≡◌, ◌≤◌, Bool, false, List, ◌++◌, length, Option, refl, arith}
use Rattle.pgo_lexer.specs.declared.token.Lexeme.{Lexeme}
use Rattle.pgo_syntax.specs.declared.name.PlacedName.{PlacedName}
use Rattle.pgo_syntax.specs.Statement.{Statement}
use Rattle.pgo_base.specs.declared.expr.Infix.TheVariants as operator
use Rattle.pgo_lexer.specs.declared.symbol.Bracket.TheVariants as bracket
use Rattle.pgo_lexer.specs.declared.symbol.Keyword.TheVariants as keyword
use Rattle.pgo_lexer.specs.declared.symbol.Symbol.TheVariants as symbol
use Rattle.pgo_mpcal_read.specs.Signs.{sees}
use Rattle.pgo_mpcal_read.specs.Elements as elements
use Rattle.pgo_mpcal_read.specs.Statements.{Spelled, IsLabeled}
use Rattle.pgo_mpcal_read.specs.Statements as s
use Rattle.pgo_mpcal_read.specs.ReadingStatements.{begins_label}
use Rattle.pgo_mpcal_read.proofs.Parts.{Quiet}

-- such tokens begin no label, end an expression before them, and are no `else`, `or`, `;` or `}`
pub record Begins (xs : List Lexeme) : Type 0 where
  pub full : 1 ≤ length xs
  pub quiet : (j : List Lexeme) → Quiet (xs ++ j)
  pub no_else : (j : List Lexeme) → sees (symbol.Keyword keyword.Else) (xs ++ j) ≡ false
  pub no_or : (j : List Lexeme) → sees (symbol.Keyword keyword.Or) (xs ++ j) ≡ false
  pub no_plus : (j : List Lexeme) → sees (symbol.Infix operator.Add) (xs ++ j) ≡ false
  pub no_minus : (j : List Lexeme) → sees (symbol.Infix operator.Subtract) (xs ++ j) ≡ false
  pub no_bars : (j : List Lexeme) → sees symbol.Bars (xs ++ j) ≡ false
  pub no_semicolon : (j : List Lexeme) → sees symbol.Semicolon (xs ++ j) ≡ false
  pub no_brace : (j : List Lexeme) → sees (symbol.Close bracket.Curly) (xs ++ j) ≡ false

pub begins : {u v : Bool} {xs : List Lexeme} {a : Statement} → Spelled u v xs a → Begins xs
begins s.skip = record { full = omega arith; quiet = λ j. refl; no_else = λ j. refl; no_or = λ j. refl; no_plus = λ j. refl; no_minus = λ j. refl; no_bars = λ j. refl; no_semicolon = λ j. refl; no_brace = λ j. refl }
begins (s.assign (elements.items (s.assignment k (s.named p) e) m)) = record { full = omega arith; quiet = λ j. refl; no_else = λ j. refl; no_or = λ j. refl; no_plus = λ j. refl; no_minus = λ j. refl; no_bars = λ j. refl; no_semicolon = λ j. refl; no_brace = λ j. refl }
begins (s.assign (elements.items (s.assignment k (s.variable p) e) m)) = record { full = omega arith; quiet = λ j. refl; no_else = λ j. refl; no_or = λ j. refl; no_plus = λ j. refl; no_minus = λ j. refl; no_bars = λ j. refl; no_semicolon = λ j. refl; no_brace = λ j. refl }
begins (s.if_then (s.branch c d r) m) = record { full = omega arith; quiet = λ j. refl; no_else = λ j. refl; no_or = λ j. refl; no_plus = λ j. refl; no_minus = λ j. refl; no_bars = λ j. refl; no_semicolon = λ j. refl; no_brace = λ j. refl }
begins (s.if_else l (s.branch c d r) m n o) = record { full = omega arith; quiet = λ j. refl; no_else = λ j. refl; no_or = λ j. refl; no_plus = λ j. refl; no_minus = λ j. refl; no_bars = λ j. refl; no_semicolon = λ j. refl; no_brace = λ j. refl }
begins (s.while_do c d r) = record { full = omega arith; quiet = λ j. refl; no_else = λ j. refl; no_or = λ j. refl; no_plus = λ j. refl; no_minus = λ j. refl; no_bars = λ j. refl; no_semicolon = λ j. refl; no_brace = λ j. refl }
begins (s.either_of q d r m) = record { full = omega arith; quiet = λ j. refl; no_else = λ j. refl; no_or = λ j. refl; no_plus = λ j. refl; no_minus = λ j. refl; no_bars = λ j. refl; no_semicolon = λ j. refl; no_brace = λ j. refl }
begins (s.await_that s.await d) = record { full = omega arith; quiet = λ j. refl; no_else = λ j. refl; no_or = λ j. refl; no_plus = λ j. refl; no_minus = λ j. refl; no_bars = λ j. refl; no_semicolon = λ j. refl; no_brace = λ j. refl }
begins (s.await_that s.when d) = record { full = omega arith; quiet = λ j. refl; no_else = λ j. refl; no_or = λ j. refl; no_plus = λ j. refl; no_minus = λ j. refl; no_bars = λ j. refl; no_semicolon = λ j. refl; no_brace = λ j. refl }
begins (s.with_in c d r) = record { full = omega arith; quiet = λ j. refl; no_else = λ j. refl; no_or = λ j. refl; no_plus = λ j. refl; no_minus = λ j. refl; no_bars = λ j. refl; no_semicolon = λ j. refl; no_brace = λ j. refl }
begins (s.print_out d) = record { full = omega arith; quiet = λ j. refl; no_else = λ j. refl; no_or = λ j. refl; no_plus = λ j. refl; no_minus = λ j. refl; no_bars = λ j. refl; no_semicolon = λ j. refl; no_brace = λ j. refl }
begins (s.assert_that d) = record { full = omega arith; quiet = λ j. refl; no_else = λ j. refl; no_or = λ j. refl; no_plus = λ j. refl; no_minus = λ j. refl; no_bars = λ j. refl; no_semicolon = λ j. refl; no_brace = λ j. refl }
begins s.go_to = record { full = omega arith; quiet = λ j. refl; no_else = λ j. refl; no_or = λ j. refl; no_plus = λ j. refl; no_minus = λ j. refl; no_bars = λ j. refl; no_semicolon = λ j. refl; no_brace = λ j. refl }
begins (s.call_macro d) = record { full = omega arith; quiet = λ j. refl; no_else = λ j. refl; no_or = λ j. refl; no_plus = λ j. refl; no_minus = λ j. refl; no_bars = λ j. refl; no_semicolon = λ j. refl; no_brace = λ j. refl }
begins (s.yield_as d) = record { full = omega arith; quiet = λ j. refl; no_else = λ j. refl; no_or = λ j. refl; no_plus = λ j. refl; no_minus = λ j. refl; no_bars = λ j. refl; no_semicolon = λ j. refl; no_brace = λ j. refl }
begins (s.block c r) = record { full = omega arith; quiet = λ j. refl; no_else = λ j. refl; no_or = λ j. refl; no_plus = λ j. refl; no_minus = λ j. refl; no_bars = λ j. refl; no_semicolon = λ j. refl; no_brace = λ j. refl }

pub labeled_begins : {u v : Bool} {xs : List Lexeme} {a : Option PlacedName × Statement} → IsLabeled u v xs a → Begins xs
labeled_begins (s.bare d) = begins d
labeled_begins (s.label f d) = record { full = omega arith; quiet = λ j. refl; no_else = λ j. refl; no_or = λ j. refl; no_plus = λ j. refl; no_minus = λ j. refl; no_bars = λ j. refl; no_semicolon = λ j. refl; no_brace = λ j. refl }

-- no statement begins with a name and a colon
pub no_label : {u v : Bool} {xs : List Lexeme} {a : Statement} → Spelled u v xs a → (j : List Lexeme) → begins_label (xs ++ j) ≡ false
no_label s.skip j = refl
no_label (s.assign (elements.items (s.assignment k (s.named elements.nothing) e) m)) j = refl
no_label (s.assign (elements.items (s.assignment k (s.named (elements.another (s.index c i) p)) e) m)) j = refl
no_label (s.assign (elements.items (s.assignment k (s.named (elements.another s.field p)) e) m)) j = refl
no_label (s.assign (elements.items (s.assignment k (s.variable p) e) m)) j = refl
no_label (s.if_then (s.branch c d r) m) j = refl
no_label (s.if_else l (s.branch c d r) m n o) j = refl
no_label (s.while_do c d r) j = refl
no_label (s.either_of q d r m) j = refl
no_label (s.await_that s.await d) j = refl
no_label (s.await_that s.when d) j = refl
no_label (s.with_in c d r) j = refl
no_label (s.print_out d) j = refl
no_label (s.assert_that d) j = refl
no_label s.go_to j = refl
no_label (s.call_macro elements.empty) j = refl
no_label (s.call_macro (elements.some c d)) j = refl
no_label (s.yield_as d) j = refl
no_label (s.block c r) j = refl
