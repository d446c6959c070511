-- Readers as functions on lists of tokens: what they give, single tokens, what was read, and lists.
use Rattle.std.specs.Prelude.{◌≡◌, ℕ, ◌+◌, ◌-◌, max, Bool, true, false, ◌&&◌, ◌||◌, if◌then◌else◌, nat_lt, nat_le, nat_eq, List, [], ◌∷◌, ◌++◌, length, Option, Some, None, Result, Ok, Err}
use Rattle.pgo_base.specs.Tree.{Tree}
use Rattle.pgo_base.specs.Tree as e
use Rattle.pgo_lexer.specs.declared.symbol.Bracket.TheVariants as bracket
use Rattle.pgo_lexer.specs.declared.symbol.Junction.{Junction}
use Rattle.pgo_lexer.specs.declared.symbol.Symbol.TheVariants as sign
use Rattle.pgo_lexer.specs.declared.symbol.Symbol.{Symbol}
use Rattle.pgo_lexer.specs.declared.token.Token.{Token}
use Rattle.pgo_lexer.specs.declared.token.Token.TheVariants as t
use Rattle.pgo_lexer.specs.declared.errors.TextStop.{TextStop}
use Rattle.pgo_lexer.specs.declared.errors.TextStop.TheVariants.{Syntax, NoMemory}
use Rattle.pgo_expr_read.specs.declared.table.Operator.{Operator}
use Rattle.pgo_expr_read.specs.declared.table.Operator.TheVariants as operator
use Rattle.pgo_expr_read.specs.declared.table.Form.{Form}
use Rattle.pgo_expr_read.specs.declared.table.Form.TheVariants as form
use Rattle.pgo_expr_read.specs.declared.lists.Between.{Between}
use Rattle.pgo_expr_read.specs.declared.lists.Between.TheVariants as between
use Rattle.pgo_expr_read.specs.declared.read.Ending.{Ending}
use Rattle.pgo_expr_read.specs.declared.read.Ending.TheVariants as ending
use Rattle.pgo_expr_read.specs.declared.read.Read.{Read}
use Rattle.pgo_expr_read.specs.Lookahead.{sees, sees_list_next, sees_name, sees_arm}
use Rattle.pgo_expr_read.specs.Kinds.{Kind, ItemOf, Name, between_of, may_follow}
use Rattle.pgo_expr_read.specs.Spells.{infix_of}
use Rattle.pgo_expr_read.specs.Table.{low, takes_left, form_low}
use Rattle.pgo_expr_read.specs.Steps as steps
unfoldable pub use Rattle.pgo_expr_read.specs.Steps.{and_then, ◌>>=◌, ◌>>◌, pure, Reads, skip, folded, all_folded}
pub use Rattle.pgo_expr_read.specs.Steps.{IsSyntax, Makes}

-- ---- parsers

abbrev pub Outcome : Type 0 → Type 0
Outcome A = steps.Outcome Token A

abbrev pub Parser : Type 0 → Type 0
Parser A = steps.Parser Token A

abbrev pub give_at : {A : Type 0} → Option A → Parser A
give_at (Some a) i = Some (a, i)
give_at None i = None

-- a result that stands for what the function gives, unless memory runs out
abbrev pub MakesAs : {A B : Type 0} → (A → B) → Option B → Result A TextStop → Type 0
MakesAs see outcome (Ok a) = outcome ≡ Some (see a)
MakesAs see outcome (Err (Syntax n)) = outcome ≡ None
MakesAs see outcome (Err NoMemory) = Unit {0}

-- ---- single tokens

abbrev pub advance : Parser (Unit {0})
advance = λ i. Some (tt, skip i)

unfoldable pub past : Symbol → List Token → List Token
past v i = if sees v i then skip i else i

abbrev pub eat : Symbol → Parser Bool
eat v = λ i. Some (sees v i, past v i)

unfoldable pub expect : Symbol → Parser (Unit {0})
expect v = λ i. if sees v i then Some (tt, skip i) else None

-- the mark between two items of a junction list
abbrev pub list_next : Parser (Unit {0})
list_next (t.ListNext ∷ rest) = Some (tt, rest)
list_next _ = None

-- the mark behind the last item
abbrev pub list_close : Parser (Unit {0})
list_close (t.ListClose ∷ rest) = Some (tt, rest)
list_close _ = None

abbrev pub name : Parser Name
name (t.Name x ∷ rest) = Some (x, rest)
name _ = None

abbrev pub text : Parser (List ℕ)
text (t.Text x ∷ rest) = Some (x, rest)
text _ = None

-- ---- what was read

abbrev pub made : {A : Type 0} → Form → Ending → ℕ → A → Read A
made f o h a = record { form = f; ending = o; height = h; tree = a }

-- a part of an expression or of a list
abbrev pub part : {A : Type 0} → Ending → ℕ → A → Read A
part o h a = made form.Closed o h a

-- a node above expressions of at most this height
unfoldable pub raised : (limit : ℕ) → Form → Ending → ℕ → Tree → Option (Read Tree)
raised limit f o h a = if nat_lt h limit then Some (made f o (h + 1) a) else None

abbrev pub closed : Read Tree → Read Tree
closed r = part ending.Closed r.height r.tree

abbrev pub is_closed : Ending → Bool
is_closed ending.Closed = true
is_closed _ = false

-- may take an index or a field
unfoldable pub ends_closed : Read Tree → Bool
ends_closed r = is_closed r.ending && nat_lt 31 (form_low r.form)

unfoldable pub goes_on : (least : ℕ) → Read Tree → Operator → Bool
goes_on least r op = is_closed r.ending && (nat_le least (low op) && takes_left op r.form)

-- one item behind the others of a list, where `join` puts it
abbrev pub added : {L A : Type 0} → (L → A → L) → Read L → Read A → Read L
added join all r = part r.ending (max all.height r.height) (join all.tree r.tree)

abbrev pub pushed : {A : Type 0} → Read (List A) → Read A → Read (List A)
pushed all r = added (λ xs x. xs ++ x ∷ []) all r

abbrev pub one_of : {A : Type 0} → Read A → Read (List A)
one_of r = pushed (part ending.Closed 0 []) r

-- one more item of a junction list
unfoldable pub joins : (limit : ℕ) → Junction → Read Tree → Read Tree → Option (Read Tree)
joins limit op all r = raised limit form.Closed ending.Closed (max all.height r.height) (e.binary (infix_of op) all.tree r.tree)

-- the height that counts of a left operand: a product of more has no node above that of its first operands
abbrev pub left_height : Operator → Form → ℕ → ℕ
left_height operator.Product (form.Operation operator.Product) h = h - 1
left_height op f h = h

-- an index of more than one expression is a tuple
unfoldable pub index_height : (limit : ℕ) → Read (List Tree) → Option ℕ
index_height limit all = if nat_eq (length all.tree) 1 then Some all.height else if nat_lt all.height limit then Some (all.height + 1) else None

-- ---- lists

abbrev pub sees_step : List Token → Bool
sees_step i = sees (sign.Open bracket.Square) i || sees sign.Dot i

-- whether a list goes on
abbrev pub goes_at : Between → List Token → Bool
goes_at between.Comma = sees sign.Comma
goes_at between.Arm = sees_arm
goes_at between.ListNext = sees_list_next
goes_at between.Name = sees_name
goes_at between.Step = sees_step

abbrev pub goes : Kind → List Token → Bool
goes k = goes_at (between_of k)

-- what stands between two items
abbrev pub pass_at : Between → Parser (Unit {0})
pass_at between.Comma = expect sign.Comma
pass_at between.Arm = expect sign.Box
pass_at between.ListNext = list_next
pass_at between.Name = pure tt
pass_at between.Step = pure tt

abbrev pub pass : Kind → Parser (Unit {0})
pass k = pass_at (between_of k)

-- one more item of a list
unfoldable pub more_at : {L A : Type 0} → (L → A → L) → (Ending → Bool) → Parser (Unit {0}) → Parser (Read A) → Read L → Parser (Read L)
more_at join may pass item all =
    if may all.ending then (do
      pass
      r ← item
      pure (added join all r)) else (λ i. None)

abbrev pub one_more : (k : Kind) → Parser (Read (ItemOf k)) → Read (List (ItemOf k)) → Parser (Read (List (ItemOf k)))
one_more k item = more_at (λ xs x. xs ++ x ∷ []) (λ o. may_follow k o) (pass k) item

abbrev pub behind : (k : Kind) → Parser (Read (ItemOf k)) → Read (List (ItemOf k)) → Parser (Read (List (ItemOf k)))
behind k item all = all_folded (goes k) (one_more k item) all

-- a list of one item or more
unfoldable pub listed_at : {L A : Type 0} → (L → A → L) → L → (List Token → Bool) → (Ending → Bool) → Parser (Unit {0}) → Parser (Read A) → Parser (Read L)
listed_at join none goes may pass item = do
  first ← item
  all_folded goes (more_at join may pass item) (added join (part ending.Closed 0 none) first)

abbrev pub listed : (k : Kind) → Parser (Read (ItemOf k)) → Parser (Read (List (ItemOf k)))
listed k item = listed_at (λ xs x. xs ++ x ∷ []) [] (goes k) (λ o. may_follow k o) (pass k) item

unfoldable pub one_more_name : List Name → Parser (List Name)
one_more_name all = do
  expect sign.Comma
  x ← name
  pure (all ++ x ∷ [])

-- names with commas between them
unfoldable pub names : Parser (List Name)
names = do
  x ← name
  all_folded (sees sign.Comma) one_more_name (x ∷ [])
