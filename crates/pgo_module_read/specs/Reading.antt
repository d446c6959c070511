-- The reader of a module's lines as functions on lists of tokens, in the shape of the code.
use Rattle.std.specs.Prelude.{Bool, not, if◌then◌else◌, List, [], ◌∷◌, Option, None, codes}
use Rattle.pgo_base.specs.Tree.{Tree}
use Rattle.pgo_base.specs.declared.expr.Infix.TheVariants as operator
use Rattle.pgo_base.specs.declared.module.Action.{Action}
use Rattle.pgo_base.specs.declared.module.Defined.{Defined}
use Rattle.pgo_base.specs.declared.module.Defined.TheVariants.{Means}
use Rattle.pgo_base.specs.Lookup.{Name}
use Rattle.pgo_lexer.specs.declared.symbol.Bracket.TheVariants as bracket
use Rattle.pgo_lexer.specs.declared.symbol.Symbol.{Symbol}
use Rattle.pgo_lexer.specs.declared.symbol.Symbol.TheVariants as symbol
use Rattle.pgo_lexer.specs.declared.token.Lexeme.{Lexeme}
use Rattle.pgo_expr_read.specs.Lookahead.{tokens_of, has_mapped}
use Rattle.pgo_model.specs.Written.{self_name, proc_set, terminating}
use Rattle.pgo_syntax.specs.declared.name.PlacedName.{PlacedName}
use Rattle.pgo_expr_read.specs.Steps.{◌>>=◌, ◌>>◌, and_then, pure}
use Rattle.pgo_mpcal_read.specs.Reading.{Parser, eat, expect, name, sees_second, expression_within, items, row}
use Rattle.pgo_mpcal_read.specs.ReadingSpec.{expect_word, dashes, begins_list, whole}
use Rattle.pgo_syntax.specs.PlacedNames.{names_of}
use Rattle.pgo_module_spells.specs.Grammar.{most_height}
use Rattle.pgo_module_read.specs.declared.lines.Declared.{Declared}
use Rattle.pgo_module_read.specs.declared.lines.Further.{Further}
use Rattle.pgo_module_read.specs.declared.lines.Lines.{Lines}

-- ---- parsers

-- a word or a sign that must stand there
pub data Fixed : Type 0 where
  word : Name → Fixed
  sign : Symbol → Fixed

abbrev pub one_fixed : Fixed → Parser (Unit {0})
one_fixed (word w) = expect_word w
one_fixed (sign v) = expect v

-- words and signs that must stand there, one behind another
abbrev pub fixed : List Fixed → Parser (Unit {0})
fixed [] = pure tt
fixed (k ∷ ks) = λ i. and_then (one_fixed k i) (λ _. fixed ks)

-- two parts, one behind the other
abbrev pub both : {A B : Type 0} → Parser A → Parser B → Parser (A × B)
both p q = λ i. and_then (p i) (λ a j. and_then (q j) (λ b. pure (a, b)))

abbrev pub mapped : {A B : Type 0} → (A → B) → Parser A → Parser B
mapped f p = λ i. and_then (p i) (λ a. pure (f a))

-- ---- definitions

abbrev pub expression : Parser Tree
expression = expression_within most_height

unfoldable pub without_parameters : PlacedName → Parser Defined
without_parameters x = do
  expect symbol.Defines
  e ← expression
  pure (Means x.name [] e)

unfoldable pub with_parameters : PlacedName → Parser Defined
with_parameters x = do
  ps ← items symbol.Comma name
  expect (symbol.Close bracket.Round)
  expect symbol.Defines
  e ← expression
  pure (Means x.name (names_of ps) e)

unfoldable pub definition : Parser Defined
definition = do
  x ← name
  is_open ← eat (symbol.Open bracket.Round)
  if is_open then with_parameters x else without_parameters x

-- the definitions go on up to the word VARIABLES with a name behind it
abbrev pub is_definition : List Lexeme → Bool
is_definition i = not (begins_list (codes "VARIABLES") i)

abbrev pub definitions : Parser (List Defined)
definitions = row is_definition definition

-- `(self) ==`
abbrev pub with_self : List Fixed
with_self = sign (symbol.Open bracket.Round) ∷ word self_name ∷ sign (symbol.Close bracket.Round) ∷ sign symbol.Defines ∷ []

unfoldable pub action : Parser Action
action = do
  x ← name
  fixed with_self
  e ← expression
  pure (record { name = x.name; body = e })

-- the definition that is next has parameters
abbrev pub is_action : List Lexeme → Bool
is_action = sees_second (symbol.Open bracket.Round)

abbrev pub actions : Parser (List Action)
actions = row is_action action

-- the body of the definition of this name, which has no parameters
unfoldable pub body_of : Name → Parser Tree
body_of w = do
  expect_word w
  expect symbol.Defines
  expression

-- ---- lines

abbrev pub first_modules : List Fixed
first_modules = word (codes "EXTENDS") ∷ word (codes "Integers") ∷ sign symbol.Comma ∷ word (codes "Sequences") ∷ []

abbrev pub last_modules : List Fixed
last_modules = sign symbol.Comma ∷ word (codes "FiniteSets") ∷ sign symbol.Comma ∷ word (codes "TLC") ∷ []

unfoldable pub heading : Parser Name
heading = do
  dashes
  expect_word (codes "MODULE")
  x ← name
  dashes
  fixed first_modules
  fixed last_modules
  pure x.name

-- names behind this word
unfoldable pub names_behind : Name → Parser (List Name)
names_behind w = do
  expect_word w
  xs ← items symbol.Comma name
  pure (names_of xs)

-- `Spec == Init /\ []`
abbrev pub spec_begins : List Fixed
spec_begins = word (codes "Spec") ∷ sign symbol.Defines ∷ word (codes "Init") ∷ sign (symbol.Infix operator.And) ∷ sign symbol.Box ∷ []

-- `[Next]_vars`
abbrev pub all_steps : List Fixed
all_steps = sign (symbol.Open bracket.Square) ∷ word (codes "Next") ∷ sign (symbol.Close bracket.Square) ∷ word (codes "_vars") ∷ []

-- the line of Spec, and the closing row
unfoldable pub ending : Parser (Unit {0})
ending = do
  fixed spec_begins
  fixed all_steps
  expect symbol.Defines
  expect symbol.Defines
  pure tt

-- the name and the constants
unfoldable pub title : Parser (Name × List Name)
title = both heading (names_behind (codes "CONSTANTS"))

-- the definitions and the variables
unfoldable pub definitions_and_variables : Parser (List Defined × List Name)
definitions_and_variables = both definitions (names_behind (codes "VARIABLES"))

abbrev pub declared_of : (Name × List Name) × (List Defined × List Name) → Declared
declared_of p = record { name = p.0.0; constants = p.0.1; definitions = p.1.0; variables = p.1.1 }

unfoldable pub read_declared : Parser Declared
read_declared = mapped declared_of (both title definitions_and_variables)

-- `vars`, ProcSet and Init
unfoldable pub bodies_before : Parser (Tree × (Tree × Tree))
bodies_before = both (body_of (codes "vars")) (both (body_of proc_set) (body_of (codes "Init")))

-- Terminating and Next
unfoldable pub bodies_behind : Parser (Tree × Tree)
bodies_behind = both (body_of terminating) (body_of (codes "Next"))

abbrev pub further_of : (Tree × (Tree × Tree)) × (List Action × (Tree × Tree)) → Further
further_of p = record { vars = p.0.0; sets = p.0.1.0; init = p.0.1.1; actions = p.1.0; ending = p.1.1.0; next = p.1.1.1 }

unfoldable pub read_further : Parser Further
read_further = mapped further_of (both bodies_before (both actions bodies_behind))

abbrev pub lines_of : Declared × (Further × Unit {0}) → Lines
lines_of p = record { declared = p.0; further = p.1.0 }

unfoldable pub read_lines : Parser Lines
read_lines = mapped lines_of (both read_declared (both read_further ending))

-- all tokens
unfoldable pub all_lines : List Lexeme → Option Lines
all_lines i = if has_mapped (tokens_of i) then None else whole (read_lines i)
