-- The reader of the parts of a specification as functions on lists of tokens, in the shape of the code.
use Rattle.std.specs.Prelude.{Bool, not, ◌&&◌, ◌||◌, if◌then◌else◌, List, [], ◌∷◌, ◌++◌, length, Option, Some, None}
use Rattle.pgo_lexer.specs.declared.token.Lexeme.{Lexeme}
use Rattle.pgo_syntax.specs.declared.name.PlacedName.{PlacedName}
use Rattle.pgo_syntax.specs.declared.archetype.Archetype.{Archetype}
use Rattle.pgo_syntax.specs.declared.archetype.Extent.{Extent}
use Rattle.pgo_syntax.specs.declared.archetype.Extent.TheVariants as extents
use Rattle.pgo_syntax.specs.declared.archetype.Parameter.{Parameter}
use Rattle.pgo_syntax.specs.declared.archetype.ParameterKind.TheVariants as kind
use Rattle.pgo_syntax.specs.declared.binding.Origin.{Origin}
use Rattle.pgo_syntax.specs.declared.declaration.Declaration.{Declaration}
use Rattle.pgo_syntax.specs.declared.declaration.Definition.{Definition}
use Rattle.pgo_syntax.specs.declared.macros.Macro.{Macro}
use Rattle.pgo_syntax.specs.declared.macros.MappingMacro.{MappingMacro}
use Rattle.pgo_syntax.specs.declared.process.Argument.{Argument}
use Rattle.pgo_syntax.specs.declared.process.Argument.TheVariants as arguments
use Rattle.pgo_syntax.specs.declared.process.MappingClause.{MappingClause}
use Rattle.pgo_syntax.specs.declared.process.MappingTarget.{MappingTarget}
use Rattle.pgo_syntax.specs.declared.process.MappingTarget.TheVariants as targets
use Rattle.pgo_syntax.specs.declared.process.Process.{Process}
use Rattle.pgo_syntax.specs.Statement.{Statement}
use Rattle.pgo_mpcal_read.specs.declared.with_depth.WithDepth.{WithDepth}
use Rattle.pgo_mpcal_read.specs.declared.depths.MacroDepth.{MacroDepth}
use Rattle.pgo_base.specs.declared.expr.Infix.TheVariants as operator
use Rattle.pgo_lexer.specs.declared.symbol.Bracket.TheVariants as bracket
use Rattle.pgo_lexer.specs.declared.symbol.Keyword.TheVariants as keyword
use Rattle.pgo_lexer.specs.declared.symbol.Symbol.TheVariants as symbol
use Rattle.pgo_mpcal_read.specs.Elements.{most_depth}
use Rattle.pgo_expr_read.specs.Steps.{◌>>=◌, ◌>>◌, and_then, pure, skip, folded}
use Rattle.pgo_mpcal_read.specs.Reading.{Parser, Outcome, past, eat, expect, mark, name, number, sees_name, sees_second, place, expression, items, in_brackets, row, ended}
use Rattle.pgo_mpcal_read.specs.ReadingStatements.{origin_of, body, statement}
use Rattle.pgo_mpcal_read.specs.Signs.{sees}

-- ---- definitions and declarations

unfoldable pub without_params : PlacedName → Parser Definition
without_params x = do
  expect symbol.Defines
  e ← expression
  pure (record { name = x; params = []; body = e })

unfoldable pub with_params : PlacedName → Parser Definition
with_params x = do
  ps ← items symbol.Comma name
  expect (symbol.Close bracket.Round)
  expect symbol.Defines
  e ← expression
  pure (record { name = x; params = ps; body = e })

unfoldable pub definition : Parser Definition
definition = do
  x ← name
  is_open ← eat (symbol.Open bracket.Round)
  if is_open then with_params x else without_params x

unfoldable pub with_value : PlacedName → Parser Declaration
with_value x = do
  o ← origin_of
  pure (record { name = x; initial = Some o })

abbrev pub sees_origin : List Lexeme → Bool
sees_origin i = sees (symbol.Infix operator.Equal) i || sees (symbol.Infix operator.In) i

unfoldable pub declaration : Parser Declaration
declaration = do
  x ← name
  λ i. if sees_origin i then with_value x i else Some (record { name = x; initial = None }, i)

-- what stands between a declaration, which these tokens begin with, and the next one
unfoldable pub declaration_ended : List Lexeme → List Lexeme → Option (List Lexeme)
declaration_ended i rest = if sees symbol.Comma rest then (if sees_name (skip rest) then Some (skip rest) else None) else ended i rest

abbrev pub declared_to : List Declaration → Declaration → Option (List Lexeme) → Outcome (List Declaration)
declared_to all d (Some rest) = Some (all ++ d ∷ [], rest)
declared_to all d None = None

unfoldable pub one_more_declaration : List Declaration → Parser (List Declaration)
one_more_declaration all i = and_then (declaration i) (λ d rest. declared_to all d (declaration_ended i rest))

unfoldable pub declarations : Parser (List Declaration)
declarations = do
  first ← one_more_declaration []
  λ i. folded sees_name one_more_declaration (length i) first i

unfoldable pub variables : Parser (List Declaration)
variables = do
  expect (symbol.Keyword keyword.Variables)
  declarations

unfoldable pub locals : Parser (List Declaration)
locals = λ i. if sees (symbol.Keyword keyword.Variables) i then variables i else Some ([], i)

-- ---- parameters, arguments and mapping clauses

unfoldable pub element : Parser Extent
element = do
  expect (symbol.Open bracket.Square)
  expect symbol.Underscore
  expect (symbol.Close bracket.Square)
  pure extents.Element

unfoldable pub extent : Parser Extent
extent = λ i. if sees (symbol.Open bracket.Square) i then element i else Some (extents.Whole, i)

unfoldable pub ref_parameter : Parser Parameter
ref_parameter = do
  x ← name
  m ← extent
  pure (record { name = x; kind = kind.Ref m })

unfoldable pub value_parameter : Parser Parameter
value_parameter = do
  x ← name
  pure (record { name = x; kind = kind.Value })

unfoldable pub parameter : Parser Parameter
parameter = do
  is_ref ← eat (symbol.Keyword keyword.Ref)
  if is_ref then ref_parameter else value_parameter

unfoldable pub ref_argument : Parser Argument
ref_argument = do
  x ← name
  m ← extent
  pure (arguments.Ref x m)

unfoldable pub value_argument : Parser Argument
value_argument i = and_then (expression i) (λ e. pure (arguments.Value (place i) e))

unfoldable pub argument : Parser Argument
argument = do
  is_ref ← eat (symbol.Keyword keyword.Ref)
  if is_ref then ref_argument else value_argument

unfoldable pub numbered_target : Parser MappingTarget
numbered_target = do
  p ← mark symbol.At
  k ← number
  m ← extent
  pure (targets.Argument p k m)

unfoldable pub named_target : Parser MappingTarget
named_target = do
  x ← name
  m ← extent
  pure (targets.Global x m)

unfoldable pub target : Parser MappingTarget
target = λ i. if sees symbol.At i then numbered_target i else named_target i

unfoldable pub clause : Parser MappingClause
clause = do
  expect (symbol.Keyword keyword.Mapping)
  g ← target
  expect (symbol.Keyword keyword.Via)
  x ← name
  pure (record { target = g; mapping = x })

-- `mapping macro` begins a unit and no clause
abbrev pub sees_clause : List Lexeme → Bool
sees_clause i = sees (symbol.Keyword keyword.Mapping) i && not (sees_second (symbol.Keyword keyword.Macro) i)

-- ---- units

-- the block of a unit, where these are the macros before it
unfoldable pub block : List MacroDepth → Parser (WithDepth (List (Option PlacedName × Statement)))
block ms = body ms most_depth (statement ms most_depth)

unfoldable pub define : Parser (List Definition)
define = do
  expect (symbol.Keyword keyword.Define)
  expect (symbol.Open bracket.Curly)
  ds ← row sees_name definition
  expect (symbol.Close bracket.Curly)
  pure ds

-- a macro, with the depth of its body
unfoldable pub macro_definition : List MacroDepth → Parser (WithDepth Macro)
macro_definition ms = do
  expect (symbol.Keyword keyword.Macro)
  x ← name
  ps ← in_brackets name
  b ← block ms
  pure (record { depth = b.depth; part = record { name = x; params = ps; body = b.part } })

unfoldable pub mapping_macro : List MacroDepth → Parser MappingMacro
mapping_macro ms = do
  expect (symbol.Keyword keyword.Mapping)
  expect (symbol.Keyword keyword.Macro)
  x ← name
  expect (symbol.Open bracket.Curly)
  expect (symbol.Keyword keyword.Read)
  r ← block ms
  expect (symbol.Keyword keyword.Write)
  w ← block ms
  expect (symbol.Close bracket.Curly)
  pure (record { name = x; read = r.part; write = w.part })

unfoldable pub archetype : List MacroDepth → Parser Archetype
archetype ms = do
  expect (symbol.Keyword keyword.Archetype)
  x ← name
  ps ← in_brackets parameter
  ds ← locals
  b ← block ms
  pure (record { name = x; params = ps; locals = ds; body = b.part })

-- behind `fair` or `fair+`, which may stand here
unfoldable pub fair : List Lexeme → List Lexeme
fair i = if sees (symbol.Keyword keyword.Fair) i then past (symbol.Infix operator.Add) (skip i) else i

unfoldable pub process_head : Parser (PlacedName × Origin)
process_head = do
  expect (symbol.Keyword keyword.Process)
  expect (symbol.Open bracket.Round)
  x ← name
  o ← origin_of
  expect (symbol.Close bracket.Round)
  pure (x, o)

unfoldable pub process_tail : PlacedName × Origin → Parser Process
process_tail head = do
  expect symbol.Defines
  expect (symbol.Keyword keyword.Instance)
  y ← name
  vs ← in_brackets argument
  ms ← row sees_clause clause
  λ i. Some (record { name = head.0; ids = head.1; archetype = y; arguments = vs; clauses = ms }, past symbol.Semicolon i)

unfoldable pub process : Parser Process
process = λ i. and_then (process_head (fair i)) process_tail
