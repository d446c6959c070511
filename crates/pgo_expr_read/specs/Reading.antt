-- The reader as functions on lists of tokens, in the shape of the code: what it reads, and the tokens behind it.
use Rattle.std.specs.Prelude.{ℕ, zero, suc, max, Bool, true, false, if◌then◌else◌, nat_le, nat_eq, List, [], ◌∷◌, length, Option, Some, None}
use Rattle.pgo_base.specs.declared.expr.Infix.TheVariants as op
use Rattle.pgo_base.specs.declared.expr.Prefix.{Prefix}
use Rattle.pgo_base.specs.declared.expr.Quantifier.{Quantifier}
use Rattle.pgo_base.specs.declared.expr.Word.{Word}
use Rattle.pgo_base.specs.declared.expr.Word.TheVariants as w
use Rattle.pgo_base.specs.Tree.{Tree, no_trees, trees, bound, named, arms, paths}
use Rattle.pgo_base.specs.Tree as e
use Rattle.pgo_lexer.specs.declared.symbol.Bracket.TheVariants as bracket
use Rattle.pgo_lexer.specs.declared.symbol.Junction.{Junction}
use Rattle.pgo_lexer.specs.declared.symbol.Symbol.TheVariants as sign
use Rattle.pgo_lexer.specs.declared.symbol.Symbol.{Symbol}
use Rattle.pgo_lexer.specs.declared.token.Token.{Token}
use Rattle.pgo_lexer.specs.declared.token.Token.TheVariants as t
use Rattle.pgo_expr_read.specs.declared.table.Operator.{Operator}
use Rattle.pgo_expr_read.specs.declared.table.Operator.TheVariants as operator
use Rattle.pgo_expr_read.specs.declared.table.Form.TheVariants as form
use Rattle.pgo_expr_read.specs.declared.lookahead.PrimaryForm.{PrimaryForm}
use Rattle.pgo_expr_read.specs.declared.lookahead.PrimaryForm.TheVariants as primaries
use Rattle.pgo_expr_read.specs.declared.lookahead.Opener.{Opener}
use Rattle.pgo_expr_read.specs.declared.lookahead.Opener.TheVariants as opener
use Rattle.pgo_expr_read.specs.declared.lookahead.Next.{Next}
use Rattle.pgo_expr_read.specs.declared.lookahead.Next.TheVariants as next
use Rattle.pgo_expr_read.specs.declared.lookahead.Square.{Square}
use Rattle.pgo_expr_read.specs.declared.lookahead.Square.TheVariants as square
use Rattle.pgo_expr_read.specs.declared.read.Ending.{Ending}
use Rattle.pgo_expr_read.specs.declared.read.Ending.TheVariants as ending
use Rattle.pgo_expr_read.specs.declared.read.Read.{Read}
use Rattle.pgo_expr_read.specs.Lookahead as look
use Rattle.pgo_expr_read.specs.Lookahead.{sees, sees_list_next, begins_binder, form_of_square, endless, has_mapped}
use Rattle.pgo_expr_read.specs.Kinds.{Kind, ItemOf, Name, variable_name, value_name, is_case}
use Rattle.pgo_expr_read.specs.Kinds as kind
use Rattle.pgo_expr_read.specs.Spells.{applied, opened}
use Rattle.pgo_expr_read.specs.Table.{form_low, right_least, prefix_least}
unfoldable pub use Rattle.pgo_expr_read.specs.Parsers.{Outcome, Parser, and_then, ◌>>=◌, ◌>>◌, pure, give_at, Reads, MakesAs, skip, advance, past, eat, expect, list_next, list_close, name, text, made, part, raised, closed, is_closed, ends_closed, goes_on, added, pushed, one_of, joins, left_height, index_height, folded, all_folded, sees_step, goes_at, goes, pass_at, pass, more_at, one_more, behind, listed_at, listed, one_more_name, names}
pub use Rattle.pgo_expr_read.specs.Parsers.{IsSyntax, Makes}

-- ---- what opens without a node

abbrev pub on_opener : {A : Type 0} → Option Opener → (Opener → Outcome A) → Outcome A → Outcome A
on_opener (Some o) f other = f o
on_opener None f other = other

-- the parentheses and junction lists that open here, the innermost first
unfoldable pub openers : (turns : ℕ) → List Opener → Parser (List Opener)
openers zero os = pure os
openers (suc n) os = λ i. on_opener (look.opens i) (λ o. openers n (o ∷ os) (skip i)) (Some (os, i))

-- ---- expressions. `limit` is the most height of a tree, and `ex` reads its subexpressions.

module _ (limit : ℕ) (ex : ℕ → Parser (Read Tree)) where
  abbrev pub node : Ending → ℕ → Tree → Parser (Read Tree)
  node o h a = give_at (raised limit form.Closed o h a)

  unfoldable pub leaf : Tree → Parser (Read Tree)
  leaf a = node ending.Closed 0 a

  abbrev pub range_by : (least : ℕ) → Option Word → Parser (Read Tree)
  range_by least (Some w) = λ i. leaf (e.word w) (skip i)
  range_by least None = ex least

  -- a set at the right of `\in`
  unfoldable pub range : (least : ℕ) → Parser (Read Tree)
  range least = λ i. range_by least (endless i) i

  -- ---- items

  unfoldable pub binder : Parser (Read (List Name × Tree))
  binder = do
    xs ← names
    expect (sign.Infix op.In)
    s ← range 0
    pure (part ending.Closed s.height (xs, s.tree))

  unfoldable pub field : Symbol → Parser (Read (Name × Tree))
  field v = do
    x ← name
    expect v
    a ← ex 0
    pure (part a.ending a.height (x, a.tree))

  unfoldable pub arm : Parser (Read (Tree × Tree))
  arm = do
    a ← ex 0
    expect sign.Arrow
    b ← ex 0
    pure (part b.ending (max a.height b.height) (a.tree, b.tree))

  unfoldable pub field_step : Parser (Read Tree)
  field_step = do
    x ← name
    pure (part ending.Closed 1 (e.text x))

  unfoldable pub one_step : Read Tree → Parser (Read Tree)
  one_step a = do
    expect (sign.Close bracket.Square)
    pure (part ending.Closed a.height a.tree)

  -- several indices are a tuple
  unfoldable pub tuple_step : Read Tree → Parser (Read Tree)
  tuple_step first = do
    all ← behind kind.tree (ex 0) (one_of first)
    expect (sign.Close bracket.Square)
    node ending.Closed all.height (e.tuple (trees all.tree))

  unfoldable pub index_step : Parser (Read Tree)
  index_step = do
    expect (sign.Open bracket.Square)
    a ← ex 0
    λ i. if sees sign.Comma i then tuple_step a i else one_step a i

  unfoldable pub step : Parser (Read Tree)
  step = do
    is_field ← eat sign.Dot
    if is_field then field_step else index_step

  unfoldable pub update : Parser (Read (List Tree × Tree))
  update = do
    expect sign.Bang
    path ← listed kind.step step
    expect (sign.Infix op.Equal)
    a ← ex 0
    pure (part a.ending (max path.height a.height) (path.tree, a.tree))

  abbrev pub item : (k : Kind) → Parser (Read (ItemOf k))
  item kind.tree = ex 0
  item kind.item = ex 0
  item kind.binder = binder
  item (kind.field v) = field v
  item kind.definition = field sign.Defines
  item kind.arm = arm
  item kind.step = step
  item kind.update = update

  abbrev pub items : (k : Kind) → Parser (Read (List (ItemOf k)))
  items k = listed k (item k)

  -- ---- forms

  unfoldable pub prefixed : Prefix → Parser (Read Tree)
  prefixed p = do
    advance
    r ← ex (prefix_least p)
    give_at (raised limit (form.Prefix p) r.ending r.height (e.unary p r.tree))

  unfoldable pub call : Name → Parser (Read Tree)
  call x = do
    all ← items kind.tree
    expect (sign.Close bracket.Round)
    node ending.Closed all.height (e.call x (trees all.tree))

  unfoldable pub plain_name : Name → Parser (Read Tree)
  plain_name x = do
    is_primed ← eat sign.Prime
    if is_primed then leaf (e.primed x) else leaf (e.name x)

  unfoldable pub named_form : Parser (Read Tree)
  named_form = do
    x ← name
    is_call ← eat (sign.Open bracket.Round)
    if is_call then call x else plain_name x

  unfoldable pub some_tuple : Parser (Read Tree)
  some_tuple = do
    all ← items kind.tree
    expect (sign.Close bracket.Angle)
    node ending.Closed all.height (e.tuple (trees all.tree))

  unfoldable pub tuple : Parser (Read Tree)
  tuple = do
    advance
    is_empty ← eat (sign.Close bracket.Angle)
    if is_empty then leaf (e.tuple no_trees) else some_tuple

  unfoldable pub filter : Parser (Read Tree)
  filter = do
    x ← name
    expect (sign.Infix op.In)
    s ← range 0
    expect sign.Colon
    p ← ex 0
    expect (sign.Close bracket.Curly)
    node ending.Closed (max s.height p.height) (e.filter_of x s.tree p.tree)

  unfoldable pub image : Read Tree → Parser (Read Tree)
  image b = do
    x ← name
    expect (sign.Infix op.In)
    s ← range 0
    expect (sign.Close bracket.Curly)
    node ending.Closed (max b.height s.height) (e.image b.tree x s.tree)

  unfoldable pub members : Read Tree → Parser (Read Tree)
  members first = do
    all ← behind kind.tree (ex 0) (one_of first)
    expect (sign.Close bracket.Curly)
    node ending.Closed all.height (e.set_of (trees all.tree))

  unfoldable pub other_set : Parser (Read Tree)
  other_set = do
    first ← ex 0
    is_image ← eat sign.Colon
    if is_image then image first else members first

  unfoldable pub some_set : Parser (Read Tree)
  some_set = λ i. if begins_binder i then filter i else other_set i

  unfoldable pub set : Parser (Read Tree)
  set = do
    advance
    is_empty ← eat (sign.Close bracket.Curly)
    if is_empty then leaf (e.set_of no_trees) else some_set

  unfoldable pub fun_of : Parser (Read Tree)
  fun_of = do
    bs ← items kind.binder
    expect sign.MapsTo
    a ← ex 0
    expect (sign.Close bracket.Square)
    node ending.Closed (max bs.height a.height) (e.fun_of (bound bs.tree) a.tree)

  unfoldable pub record_of : Parser (Read Tree)
  record_of = do
    all ← items (kind.field sign.MapsTo)
    expect (sign.Close bracket.Square)
    node ending.Closed all.height (e.record_of (named all.tree))

  unfoldable pub record_set : Parser (Read Tree)
  record_set = do
    all ← items (kind.field sign.Colon)
    expect (sign.Close bracket.Square)
    node ending.Closed all.height (e.record_set (named all.tree))

  unfoldable pub fun_set : Read Tree → Parser (Read Tree)
  fun_set a = do
    expect sign.Arrow
    b ← ex 0
    expect (sign.Close bracket.Square)
    node ending.Closed (max a.height b.height) (e.fun_set a.tree b.tree)

  unfoldable pub except : Read Tree → Parser (Read Tree)
  except a = do
    us ← items kind.update
    expect (sign.Close bracket.Square)
    node ending.Closed (max a.height us.height) (e.except a.tree (paths us.tree))

  unfoldable pub other_square : Parser (Read Tree)
  other_square = do
    a ← ex 0
    is_except ← eat sign.Except
    if is_except then except a else fun_set a

  abbrev pub square_by : Square → Parser (Read Tree)
  square_by square.Record = record_of
  square_by square.RecordSet = record_set
  square_by square.Function = fun_of
  square_by square.Other = other_square

  unfoldable pub square_form : Parser (Read Tree)
  square_form = do
    advance
    λ i. square_by (form_of_square i) i

  unfoldable pub quantified : Quantifier → Parser (Read Tree)
  quantified q = do
    advance
    bs ← items kind.binder
    expect sign.Colon
    p ← ex 0
    node (opened p.ending) (max bs.height p.height) (e.quantified q (bound bs.tree) p.tree)

  unfoldable pub choose : Parser (Read Tree)
  choose = do
    advance
    x ← name
    expect (sign.Infix op.In)
    s ← range 0
    expect sign.Colon
    p ← ex 0
    node (opened p.ending) (max s.height p.height) (e.choose x s.tree p.tree)

  unfoldable pub cond_of : Parser (Read Tree)
  cond_of = do
    advance
    a ← ex 0
    expect sign.Then
    b ← ex 0
    expect sign.Else
    c ← ex 0
    node (opened c.ending) (max a.height (max b.height c.height)) (e.cond_of a.tree b.tree c.tree)

  unfoldable pub last_arm : Read (List (Tree × Tree)) → Parser (Read Tree)
  last_arm gs = do
    expect sign.Other
    expect sign.Arrow
    a ← ex 0
    node ending.Case (max gs.height a.height) (e.case_other (arms gs.tree) a.tree)

  unfoldable pub case_other : Read (List (Tree × Tree)) → Parser (Read Tree)
  case_other gs = if is_case gs.ending then (λ i. None) else last_arm gs

  unfoldable pub case_form : Parser (Read Tree)
  case_form = do
    advance
    gs ← items kind.arm
    is_other ← eat sign.Box
    if is_other then case_other gs else node ending.Case gs.height (e.case_of (arms gs.tree))

  unfoldable pub let_in : Parser (Read Tree)
  let_in = do
    advance
    ds ← items kind.definition
    expect sign.LetIn
    a ← ex 0
    node (opened a.ending) (max ds.height a.height) (e.let_in (named ds.tree) a.tree)

  unfoldable pub unchanged : Parser (Read Tree)
  unchanged = do
    advance
    expect (sign.Open bracket.Angle)
    xs ← names
    expect (sign.Close bracket.Angle)
    leaf (e.unchanged xs)

  unfoldable pub leaf_at : Tree → Parser (Read Tree)
  leaf_at a = do
    advance
    leaf a

  unfoldable pub text_form : Parser (Read Tree)
  text_form = do
    x ← text
    leaf (e.text x)

  abbrev pub primary_by : PrimaryForm → Parser (Read Tree)
  primary_by primaries.Name = named_form
  primary_by (primaries.Number n) = leaf_at (e.number n)
  primary_by primaries.Text = text_form
  primary_by (primaries.Truth b) = leaf_at (e.truth b)
  primary_by primaries.At = leaf_at e.at
  primary_by primaries.Boolean = leaf_at (e.word w.BooleanSet)
  primary_by (primaries.Prefix p) = prefixed p
  primary_by primaries.Tuple = tuple
  primary_by primaries.Set = set
  primary_by primaries.Square = square_form
  primary_by (primaries.Quantifier q) = quantified q
  primary_by primaries.Choose = choose
  primary_by primaries.If = cond_of
  primary_by primaries.Case = case_form
  primary_by primaries.Let = let_in
  primary_by primaries.Unchanged = unchanged
  primary_by primaries.Variable = leaf_at (e.name variable_name)
  primary_by primaries.Value = leaf_at (e.name value_name)
  primary_by primaries.None = λ i. None

  unfoldable pub primary : Parser (Read Tree)
  primary i = primary_by (look.begin i) i

  -- ---- behind an operand

  abbrev pub right_by : Operator → Parser (Read Tree)
  right_by (operator.Infix op.In) = range (right_least (operator.Infix op.In))
  right_by op = ex (right_least op)

  -- the right operand
  unfoldable pub right : Operator → Parser (Read Tree)
  right op = right_by op

  unfoldable pub operation : Read Tree → Operator → Parser (Read Tree)
  operation left op = do
    advance
    r ← right op
    give_at (raised limit (form.Operation op) r.ending (max (left_height op left.form left.height) r.height) (applied op left.form left.tree r.tree))

  unfoldable pub indexed : Read Tree → Parser (Read Tree)
  indexed left = do
    advance
    all ← items kind.tree
    expect (sign.Close bracket.Square)
    h ← give_at (index_height limit all)
    node ending.Closed (max left.height h) (e.index left.tree (trees all.tree))

  unfoldable pub selected : Read Tree → Parser (Read Tree)
  selected left = do
    advance
    x ← name
    node ending.Closed left.height (e.field left.tree x)

  abbrev pub gone_on : Parser (Read Tree) → Parser (Read Tree × Bool)
  gone_on p = p >>= (λ r. pure (r, true))

  -- one turn, and whether there may be another
  abbrev pub turn_by : (least : ℕ) → Read Tree → Next → Parser (Read Tree × Bool)
  turn_by least left (next.Operator op) = λ i. if goes_on least left op then gone_on (operation left op) i else Some ((left, false), i)
  turn_by least left next.Index = λ i. if ends_closed left then gone_on (indexed left) i else Some ((left, false), i)
  turn_by least left next.Field = λ i. if ends_closed left then gone_on (selected left) i else Some ((left, false), i)
  turn_by least left _ = λ i. Some ((left, false), i)

  unfoldable pub turn : (least : ℕ) → Read Tree → Parser (Read Tree × Bool)
  turn least left = λ i. turn_by least left (look.after i) i

  unfoldable pub more : (least turns : ℕ) → Read Tree → Parser (Read Tree)
  more least zero left = pure left
  more least (suc n) left = do
    t ← turn least left
    if t.1 then more least n t.0 else pure t.0

  abbrev pub all_more : (least : ℕ) → Read Tree → Parser (Read Tree)
  all_more least left = λ i. more least (length i) left i

  -- ---- parentheses and junction lists

  unfoldable pub one_more_joined : Junction → Read Tree → Parser (Read Tree)
  one_more_joined op all = do
    list_next
    r ← ex 0
    give_at (joins limit op all r)

  -- what is left of what was opened, behind its first expression
  abbrev pub close_by : Opener → Read Tree → Parser (Read Tree)
  close_by opener.Round s = do
    expect (sign.Close bracket.Round)
    pure (closed s)
  close_by (opener.List op) s = do
    all ← all_folded sees_list_next (one_more_joined op) (closed s)
    list_close
    pure all

  unfoldable pub close : Opener → Read Tree → Parser (Read Tree)
  close o r = do
    s ← all_more 0 r
    close_by o s

  unfoldable pub closes : List Opener → Read Tree → Parser (Read Tree)
  closes [] first = pure first
  closes (o ∷ os) first = do
    r ← close o first
    closes os r

  abbrev pub from_least : (least : ℕ) → Read Tree → Parser (Read Tree)
  from_least least r = if nat_le least (form_low r.form) then all_more least r else (λ i. None)

  unfoldable pub level : (least : ℕ) → Parser (Read Tree)
  level least = do
    os ← (λ i. openers (length i) [] i)
    first ← primary
    r ← closes os first
    from_least least r

-- an expression of a form at this level or above, and no higher than the limit
unfoldable pub expr : (limit least : ℕ) → Parser (Read Tree)
expr zero least = λ i. None
expr (suc limit) least = level (suc limit) (expr limit) least

-- the tree of the whole list
abbrev pub all_of : Outcome (Read Tree) → Option Tree
all_of (Some p) = if nat_eq (length p.1) 0 then Some p.0.tree else None
all_of None = None

unfoldable pub all : (limit : ℕ) → List Token → Option Tree
all limit tokens = all_of (expr limit 0 tokens)

-- the same of a text of its own, in which no `$variable` and no `$value` stands
abbrev pub all_plain : (limit : ℕ) → List Token → Option Tree
all_plain limit tokens = if has_mapped tokens then None else all limit tokens
