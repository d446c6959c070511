-- The reader of statements as functions on lists of tokens, in the shape of the code.
use Rattle.std.specs.Prelude.{ℕ, zero, suc, ◌+◌, max, Bool, not, ◌&&◌, ◌||◌, if◌then◌else◌, nat_lt, List, [], ◌∷◌, ◌++◌, Option, Some, None, codes}
use Rattle.pgo_base.specs.Tree.{Tree}
use Rattle.pgo_lexer.specs.declared.token.Lexeme.{Lexeme}
use Rattle.pgo_syntax.specs.declared.name.PlacedName.{PlacedName}
use Rattle.pgo_syntax.specs.declared.assignment.Step.{Step}
use Rattle.pgo_syntax.specs.declared.assignment.Step.TheVariants as step
use Rattle.pgo_syntax.specs.declared.assignment.Left.{Left}
use Rattle.pgo_syntax.specs.declared.assignment.Assignment.{Assignment}
use Rattle.pgo_syntax.specs.declared.binding.Origin.{Origin}
use Rattle.pgo_syntax.specs.declared.binding.Origin.TheVariants as origin
use Rattle.pgo_syntax.specs.declared.binding.WithName.{WithName}
use Rattle.pgo_syntax.specs.Statement.{Statement, statements, labeled, guarded}
use Rattle.pgo_syntax.specs.Statement as st
use Rattle.pgo_mpcal_read.specs.declared.with_depth.WithDepth.{WithDepth}
use Rattle.pgo_mpcal_read.specs.declared.depths.MacroDepth.{MacroDepth}
use Rattle.pgo_mpcal_read.specs.declared.lookahead.StatementForm.{StatementForm}
use Rattle.pgo_mpcal_read.specs.declared.lookahead.StatementForm.TheVariants as statement_form
use Rattle.pgo_base.specs.declared.expr.Infix.TheVariants as operator
use Rattle.pgo_lexer.specs.declared.symbol.Bracket.TheVariants as bracket
use Rattle.pgo_lexer.specs.declared.symbol.Keyword.{Keyword}
use Rattle.pgo_lexer.specs.declared.symbol.Keyword.TheVariants as keyword
use Rattle.pgo_lexer.specs.declared.symbol.Symbol.TheVariants as symbol
use Rattle.pgo_mpcal_read.specs.Depths.{depth_of}
use Rattle.pgo_mpcal_read.specs.Lookahead.{form_of}
use Rattle.pgo_mpcal_read.specs.Signs.{sees}
use Rattle.pgo_expr_read.specs.Steps.{◌>>=◌, ◌>>◌, and_then, pure, skip, all_folded}
use Rattle.pgo_mpcal_read.specs.Reading.{Parser, Outcome, eat, expect, mark, name, sees_name, sees_second, expression, range, items, in_brackets, row, ended}

-- ---- assignments

unfoldable pub index_step : Parser Step
index_step = do
  expect (symbol.Open bracket.Square)
  e ← expression
  expect (symbol.Close bracket.Square)
  pure (step.Index e)

unfoldable pub field_step : Parser Step
field_step = do
  x ← name
  pure (step.Field x.name)

unfoldable pub path_step : Parser Step
path_step = do
  is_field ← eat symbol.Dot
  if is_field then field_step else index_step

abbrev pub sees_step : List Lexeme → Bool
sees_step i = sees (symbol.Open bracket.Square) i || sees symbol.Dot i

-- `$variable` with its place
unfoldable pub variable : Parser PlacedName
variable = do
  p ← mark symbol.Variable
  pure (record { name = codes "$variable"; place = p })

unfoldable pub assigned : Parser PlacedName
assigned = λ i. if sees symbol.Variable i then variable i else name i

unfoldable pub left : Parser Left
left = do
  x ← assigned
  path ← row sees_step path_step
  pure (record { name = x; path = path })

unfoldable pub assignment : Parser Assignment
assignment = do
  l ← left
  expect symbol.Assign
  e ← expression
  pure (record { left = l; right = e })

-- ---- where a name's value comes from

unfoldable pub equals : Parser Origin
equals = do
  e ← expression
  pure (origin.Equals e)

unfoldable pub member : Parser Origin
member = do
  expect (symbol.Infix operator.In)
  e ← range
  pure (origin.In e)

unfoldable pub origin_of : Parser Origin
origin_of = do
  is_equal ← eat (symbol.Infix operator.Equal)
  if is_equal then equals else member

unfoldable pub with_name : Parser WithName
with_name = do
  x ← name
  o ← origin_of
  pure (record { name = x; origin = o })

-- ---- labels

unfoldable pub fairness : List Lexeme → List Lexeme
fairness i = if sees (symbol.Infix operator.Add) i || sees (symbol.Infix operator.Subtract) i then skip i else i

unfoldable pub label : Parser (Option PlacedName)
label = do
  x ← name
  expect symbol.Colon
  λ i. Some (Some x, fairness i)

abbrev pub begins_label : List Lexeme → Bool
begins_label i = sees_name i && sees_second symbol.Colon i

-- a label, where one is next
unfoldable pub optional_label : Parser (Option PlacedName)
optional_label = λ i. if begins_label i then label i else Some (None, i)

-- ---- statements. `limit` is the greatest depth of the statement, and `inner` reads the statements in it.

abbrev pub with_depth : {A : Type 0} → ℕ → A → WithDepth A
with_depth h a = record { depth = h; part = a }

-- one more of a list
abbrev pub added : {A : Type 0} → WithDepth (List A) → WithDepth A → WithDepth (List A)
added all r = with_depth (max all.depth r.depth) (all.part ++ r.part ∷ [])

abbrev pub sees_else_if : List Lexeme → Bool
sees_else_if i = sees (symbol.Keyword keyword.Else) i && sees_second (symbol.Keyword keyword.If) i

-- what stands between a statement, which these tokens begin with, and the next one
unfoldable pub row_ended : List Lexeme → List Lexeme → Option (List Lexeme)
row_ended i rest = if sees (symbol.Close bracket.Curly) rest then Some rest else ended i rest

abbrev pub goes_on : List Lexeme → Bool
goes_on i = not (sees (symbol.Close bracket.Curly) i)

-- one more of a list, where these tokens follow
abbrev pub row_to : {A : Type 0} → WithDepth (List A) → WithDepth A → Option (List Lexeme) → Outcome (WithDepth (List A))
row_to all r (Some rest) = Some (added all r, rest)
row_to all r None = None

-- what this word and an expression make; `await` and `when` are one
abbrev pub said : Keyword → ℕ → Tree → Statement
said keyword.Print = st.print_out
said keyword.Assert = st.assert_that
said keyword.Yield = st.yield_as
said _ = st.await_that

module _ (ms : List MacroDepth) (limit : ℕ) (inner : Parser (WithDepth Statement)) where
  -- a statement above others of at most this depth
  unfoldable pub node : ℕ → Statement → Parser (WithDepth Statement)
  node h s i = if nat_lt h limit then Some (with_depth (h + 1) s, i) else None

  unfoldable pub skip_form : Parser (WithDepth Statement)
  skip_form = do
    p ← mark (symbol.Keyword keyword.Skip)
    node 0 (st.skip p)

  -- a statement of one word and an expression
  unfoldable pub one_expression : Keyword → Parser (WithDepth Statement)
  one_expression k = do
    p ← mark (symbol.Keyword k)
    e ← expression
    node 0 (said k p e)

  unfoldable pub goto_form : Parser (WithDepth Statement)
  goto_form = do
    p ← mark (symbol.Keyword keyword.Goto)
    x ← name
    node 0 (st.go_to p x)

  abbrev pub assign_all : List Assignment → Parser (WithDepth Statement)
  assign_all [] = λ i. None
  assign_all (a ∷ as') = node 0 (st.assign a.left.name.place (a ∷ as'))

  unfoldable pub assign_form : Parser (WithDepth Statement)
  assign_form = do
    all ← items symbol.Bars assignment
    assign_all all

  unfoldable pub call_form : Parser (WithDepth Statement)
  call_form = do
    x ← name
    es ← in_brackets expression
    node (depth_of ms x.name) (st.call_macro x.place x es)

  unfoldable pub while_form : Parser (WithDepth Statement)
  while_form = do
    p ← mark (symbol.Keyword keyword.While)
    expect (symbol.Open bracket.Round)
    e ← expression
    expect (symbol.Close bracket.Round)
    s ← inner
    node s.depth (st.while_do p e s.part)

  unfoldable pub with_form : Parser (WithDepth Statement)
  with_form = do
    p ← mark (symbol.Keyword keyword.With)
    expect (symbol.Open bracket.Round)
    ns ← items symbol.Comma with_name
    expect (symbol.Close bracket.Round)
    s ← inner
    node s.depth (st.with_in p ns s.part)

  -- ---- `if`

  unfoldable pub branch : Parser (WithDepth (ℕ × (Tree × Statement)))
  branch = do
    p ← mark (symbol.Keyword keyword.If)
    expect (symbol.Open bracket.Round)
    e ← expression
    expect (symbol.Close bracket.Round)
    s ← inner
    pure (with_depth s.depth (p, (e, s.part)))

  unfoldable pub one_more_branch : WithDepth (List (ℕ × (Tree × Statement))) → Parser (WithDepth (List (ℕ × (Tree × Statement))))
  one_more_branch all = do
    expect (symbol.Keyword keyword.Else)
    b ← branch
    pure (added all b)

  unfoldable pub last_else : ℕ → WithDepth (List (ℕ × (Tree × Statement))) → Parser (WithDepth Statement)
  last_else p bs = do
    s ← inner
    node (max bs.depth s.depth) (st.if_else p (guarded bs.part) s.part)

  unfoldable pub if_form : Parser (WithDepth Statement)
  if_form = do
    first ← branch
    bs ← all_folded sees_else_if one_more_branch (with_depth first.depth (first.part ∷ []))
    is_else ← eat (symbol.Keyword keyword.Else)
    if is_else then last_else first.part.0 bs else node bs.depth (st.if_then first.part.0 (guarded bs.part))

  -- ---- `either`

  unfoldable pub one_more_or : WithDepth (List Statement) → Parser (WithDepth (List Statement))
  one_more_or all = do
    expect (symbol.Keyword keyword.Or)
    s ← inner
    pure (added all s)

  unfoldable pub either_form : Parser (WithDepth Statement)
  either_form = do
    p ← mark (symbol.Keyword keyword.Either)
    first ← inner
    two ← one_more_or (with_depth first.depth (first.part ∷ []))
    all ← all_folded (sees (symbol.Keyword keyword.Or)) one_more_or two
    node all.depth (st.either_of p (statements all.part))

  -- ---- blocks

  unfoldable pub labeled_statement : Parser (WithDepth (Option PlacedName × Statement))
  labeled_statement = do
    l ← optional_label
    s ← inner
    pure (with_depth s.depth (l, s.part))

  unfoldable pub one_more_row : WithDepth (List (Option PlacedName × Statement)) → Parser (WithDepth (List (Option PlacedName × Statement)))
  one_more_row all i = and_then (labeled_statement i) (λ r rest. row_to all r (row_ended i rest))

  unfoldable pub rows : Parser (WithDepth (List (Option PlacedName × Statement)))
  rows = do
    all ← all_folded goes_on one_more_row (with_depth 0 [])
    expect (symbol.Close bracket.Curly)
    pure all

  unfoldable pub block_form : Parser (WithDepth Statement)
  block_form = do
    p ← mark (symbol.Open bracket.Curly)
    all ← rows
    node all.depth (st.block p (labeled all.part))

  unfoldable pub body : Parser (WithDepth (List (Option PlacedName × Statement)))
  body = do
    expect (symbol.Open bracket.Curly)
    rows

  -- ---- the statement

  abbrev pub keyword_form : Keyword → Parser (WithDepth Statement)
  keyword_form keyword.Skip = skip_form
  keyword_form keyword.If = if_form
  keyword_form keyword.While = while_form
  keyword_form keyword.Either = either_form
  keyword_form keyword.With = with_form
  keyword_form keyword.Goto = goto_form
  keyword_form keyword.Await = one_expression keyword.Await
  keyword_form keyword.When = one_expression keyword.When
  keyword_form keyword.Print = one_expression keyword.Print
  keyword_form keyword.Assert = one_expression keyword.Assert
  keyword_form keyword.Yield = one_expression keyword.Yield
  keyword_form _ = λ i. None

  abbrev pub form : StatementForm → Parser (WithDepth Statement)
  form statement_form.Assign = assign_form
  form statement_form.Call = call_form
  form statement_form.Block = block_form
  form (statement_form.Keyword k) = keyword_form k
  form statement_form.None = λ i. None

  unfoldable pub any_form : Parser (WithDepth Statement)
  any_form i = form (form_of i) i

-- a statement of at most this depth, where these are the macros before it
unfoldable pub statement : List MacroDepth → (limit : ℕ) → Parser (WithDepth Statement)
statement ms zero = λ i. None
statement ms (suc n) = any_form ms (suc n) (statement ms n)
