-- The reader of a specification as functions on lists of tokens, in the shape of the code.
use Rattle.std.specs.Prelude.{◌≡◌, ℕ, zero, suc, ◌+◌, Bool, true, false, ◌&&◌, ◌||◌, if◌then◌else◌, nat_le, nat_eq, List, [], ◌∷◌, ◌++◌, length, Option, Some, None, Result, Ok, Err, codes}
use Rattle.pgo_lexer.specs.declared.errors.TextStop.{TextStop}
use Rattle.pgo_lexer.specs.declared.errors.TextStop.TheVariants.{Syntax, NoMemory}
use Rattle.pgo_lexer.specs.declared.token.Lexeme.{Lexeme}
use Rattle.pgo_lexer.specs.declared.token.Token.{Token}
use Rattle.pgo_lexer.specs.declared.token.Token.TheVariants as t
use Rattle.pgo_expr_read.specs.Kinds.{Name}
use Rattle.pgo_model.specs.ValueText.{same_bytes}
use Rattle.pgo_syntax.specs.declared.name.PlacedName.{PlacedName}
use Rattle.pgo_syntax.specs.declared.archetype.Archetype.{Archetype}
use Rattle.pgo_syntax.specs.declared.process.Process.{Process}
use Rattle.pgo_syntax.specs.declared.spec.Spec.{Spec}
use Rattle.pgo_syntax.specs.Statement.{labeled}
use Rattle.pgo_expr_read.specs.Signs.{is_sign}
use Rattle.pgo_mpcal_read.specs.declared.depths.MacroDepth.{MacroDepth}
use Rattle.pgo_mpcal_read.specs.declared.header.Header.{Header}
use Rattle.pgo_base.specs.declared.expr.Infix.TheVariants as operator
use Rattle.pgo_lexer.specs.declared.symbol.Bracket.TheVariants as bracket
use Rattle.pgo_lexer.specs.declared.symbol.Keyword.TheVariants as keyword
use Rattle.pgo_lexer.specs.declared.symbol.Symbol.TheVariants as symbol
use Rattle.pgo_mpcal_read.specs.declared.allowed.Context.{Context}
use Rattle.pgo_mpcal_read.specs.declared.allowed.Context.TheVariants as context
use Rattle.pgo_mpcal_read.specs.declared.units.Units.{Units}
use Rattle.pgo_mpcal_read.specs.Depths.{labeled_depth}
use Rattle.pgo_mpcal_read.specs.Elements.{most_depth}
use Rattle.pgo_expr_read.specs.Steps.{◌>>=◌, ◌>>◌, and_then, pure, skip, all_folded}
use Rattle.pgo_mpcal_read.specs.Reading.{Parser, Outcome, expect, name, sees_name, front_of, behind, items}
use Rattle.pgo_mpcal_read.specs.ReadingStatements.{goes_on}
use Rattle.pgo_mpcal_read.specs.ReadingUnits.{definition, variables, define, macro_definition, mapping_macro, archetype, process}
use Rattle.pgo_mpcal_read.specs.Signs.{sees}
use Rattle.pgo_mpcal_read.specs.Spells.{declarations_of}
use Rattle.pgo_mpcal_read.specs.Units.{is_plain, may_stand_in_macro, all_are, no_units}

-- what a reader leaves in place of what was there is what the function gives, unless memory runs out
abbrev pub Updates : {A : Type 0} → Outcome A → Result (Unit {0}) TextStop → A → List Lexeme → Type 0
Updates outcome (Ok u) new rest = outcome ≡ Some (new, rest)
Updates outcome (Err (Syntax n)) new rest = outcome ≡ None
Updates outcome (Err NoMemory) new rest = Unit {0}

-- ---- units

-- what may stand there
abbrev pub is_allowed : Context → Token → Bool
is_allowed context.Plain = is_plain
is_allowed context.Macro = may_stand_in_macro

-- what was read of these tokens, where all of those that were read may stand there
abbrev pub if_allowed : {A : Type 0} → Context → List Lexeme → Outcome A → Outcome A
if_allowed w i (Some p) = if all_are (is_allowed w) (front_of i p.1) then Some p else None
if_allowed w i None = None

-- where there is none yet
abbrev pub if_absent : {A B : Type 0} → Option A → Outcome B → Outcome B
if_absent None o = o
if_absent (Some a) o = None

unfoldable pub define_unit : Units → Parser Units
define_unit b i = if_absent b.define (and_then (if_allowed context.Plain i (define i)) (λ ds. pure (record b { define = Some ds })))

unfoldable pub macro_unit : Units → Parser Units
macro_unit b i = and_then (if_allowed context.Macro i (macro_definition b.depths i)) (λ m. pure (record b { macros = b.macros ++ m.part ∷ []; depths = b.depths ++ record { name = m.part.name.name; depth = m.depth } ∷ [] }))

unfoldable pub mapping_unit : Units → Parser Units
mapping_unit b i = and_then (mapping_macro b.depths i) (λ m. pure (record b { mappings = b.mappings ++ m ∷ [] }))

unfoldable pub archetype_unit : Units → Parser Units
archetype_unit b i = and_then (if_allowed context.Plain i (archetype b.depths i)) (λ a. pure (record b { archetypes = b.archetypes ++ a ∷ [] }))

unfoldable pub globals_unit : Units → Parser Units
globals_unit b i = if_absent b.globals (and_then (if_allowed context.Plain i (variables i)) (λ ds. pure (record b { globals = Some ds })))

unfoldable pub process_unit : Units → Parser Units
process_unit b i = and_then (if_allowed context.Plain i (process i)) (λ q. pure (record b { processes = b.processes ++ q ∷ [] }))

unfoldable pub unit : Units → Parser Units
unit b i =
    if sees (symbol.Keyword keyword.Define) i then define_unit b i else if sees (symbol.Keyword keyword.Macro) i then macro_unit b i else if sees (symbol.Keyword keyword.Mapping) i then mapping_unit b i
    else if sees (symbol.Keyword keyword.Archetype) i then archetype_unit b i else if sees (symbol.Keyword keyword.Variables) i then globals_unit b i
    else if sees (symbol.Keyword keyword.Fair) i || sees (symbol.Keyword keyword.Process) i then process_unit b i else None

unfoldable pub algorithm : Parser (PlacedName × Units)
algorithm = do
  x ← name
  expect (symbol.Open bracket.Curly)
  us ← all_folded goes_on unit no_units
  expect (symbol.Close bracket.Curly)
  pure (x, us)

-- ---- the header

abbrev pub is_word : Name → Token → Bool
is_word w (t.Name x) = same_bytes x w
is_word w _ = false

abbrev pub sees_word : Name → List Lexeme → Bool
sees_word w [] = false
sees_word w (l ∷ rest) = is_word w l.token

unfoldable pub expect_word : Name → Parser (Unit {0})
expect_word w = λ i. if sees_word w i then Some (tt, skip i) else None

-- a `-` that begins at this offset
abbrev pub sees_minus : (offset : ℕ) → List Lexeme → Bool
sees_minus offset [] = false
sees_minus offset (l ∷ rest) = is_sign (symbol.Infix operator.Subtract) l.token && nat_eq l.start offset

-- where the next token ends
abbrev pub stop_of : List Lexeme → ℕ
stop_of [] = 0
stop_of (l ∷ rest) = l.stop

-- further dashes behind so many, which end at this offset
unfoldable pub more_dashes : (turns count stop : ℕ) → Parser ℕ
more_dashes zero count stop = pure count
more_dashes (suc n) count stop = λ i. if sees_minus stop i then more_dashes n (count + 1) (stop_of i) (skip i) else Some (count, i)

unfoldable pub dashes : Parser (Unit {0})
dashes i =
    if sees (symbol.Infix operator.Subtract) i then and_then (more_dashes (length (skip i)) 0 (stop_of i) (skip i)) (λ count rest. if nat_le 3 count then Some (tt, rest) else None) else None

-- this word and a name behind it
abbrev pub begins_list : Name → List Lexeme → Bool
begins_list w i = sees_word w i && sees_name (skip i)

unfoldable pub extends : Parser (List PlacedName)
extends = λ i. if begins_list (codes "EXTENDS") i then items symbol.Comma name (skip i) else Some ([], i)

unfoldable pub title : Parser Header
title = do
  dashes
  expect_word (codes "MODULE")
  x ← name
  dashes
  es ← extends
  pure (record { name = x; extends = es; constants = []; definitions = [] })

unfoldable pub constants_part : Header → Parser Header
constants_part h = do
  first ← name
  all ← behind symbol.Comma name (h.constants ++ first ∷ [])
  pure (record h { constants = all })

unfoldable pub definition_part : Header → Parser Header
definition_part h = do
  d ← definition
  pure (record h { definitions = h.definitions ++ d ∷ [] })

unfoldable pub part : Header → Parser Header
part h i = if begins_list (codes "CONSTANT") i || begins_list (codes "CONSTANTS") i then constants_part h (skip i) else definition_part h i

abbrev pub some_left : List Lexeme → Bool
some_left [] = false
some_left (l ∷ rest) = true

unfoldable pub header : Parser Header
header = do
  h ← title
  all_folded some_left part h

-- ---- the specification

-- what was read of all tokens
abbrev pub whole : {A : Type 0} → Outcome A → Option A
whole (Some p) = if nat_eq (length p.1) 0 then Some p.0 else None
whole None = None

abbrev pub is_within_depth : List MacroDepth → Archetype → Bool
is_within_depth ms a = nat_le (labeled_depth ms (labeled a.body)) most_depth

abbrev pub are_within_depth : List MacroDepth → List Archetype → Bool
are_within_depth ms [] = true
are_within_depth ms (a ∷ as') = is_within_depth ms a && are_within_depth ms as'

abbrev pub if_some : {A B : Type 0} → Option A → (A → Option B) → Option B
if_some (Some a) f = f a
if_some None f = None

abbrev pub has_process : List Process → Bool
has_process [] = false
has_process (q ∷ qs) = true

unfoldable pub spec_of : Header → PlacedName × Units → Spec
spec_of h a = record {
  name = h.name;
  extends = h.extends;
  constants = h.constants;
  definitions = h.definitions;
  algorithm = a.0;
  define = a.1.define;
  macros = a.1.macros;
  mappings = a.1.mappings;
  archetypes = a.1.archetypes;
  globals = declarations_of a.1.globals;
  processes = a.1.processes;
}

unfoldable pub all_header : List Lexeme → Option Header
all_header i = if_some (whole (header i)) (λ h. if all_are is_plain i then Some h else None)

unfoldable pub all_algorithm : List Lexeme → Option (PlacedName × Units)
all_algorithm i = if_some (whole (algorithm i)) (λ a. if has_process a.1.processes && are_within_depth a.1.depths a.1.archetypes then Some a else None)

unfoldable pub spec : (header algorithm : List Lexeme) → Option Spec
spec hs xs = if_some (all_header hs) (λ h. if_some (all_algorithm xs) (λ a. Some (spec_of h a)))
