-- The lists of the grammar: what their items stand for, and what stands between them.
use Rattle.std.specs.Prelude.{Bool, true, false, not, List, [], ◌∷◌}
pub use Rattle.pgo_base.specs.Lookup.{Name}
use Rattle.pgo_base.specs.Tree.{Tree}
-- the names that `$variable` and `$value` stand for in a tree: no identifier holds a `$`
pub use Rattle.pgo_model.specs.Written.{content_name as variable_name, value_name}
use Rattle.pgo_lexer.specs.declared.symbol.Symbol.TheVariants as sign
use Rattle.pgo_lexer.specs.declared.symbol.Symbol.{Symbol}
use Rattle.pgo_lexer.specs.declared.token.Token.TheVariants as t
use Rattle.pgo_lexer.specs.declared.token.Token.{Token}
use Rattle.pgo_expr_read.specs.declared.lists.Between.{Between}
use Rattle.pgo_expr_read.specs.declared.lists.Between.TheVariants as separator
use Rattle.pgo_expr_read.specs.declared.read.Ending.{Ending}
use Rattle.pgo_expr_read.specs.declared.read.Ending.TheVariants as ending

-- what lists have: expressions, items of a junction list, binders, names with an expression behind this sign (fields,
-- or the definitions of a LET), arms of a CASE, steps of a path and updates of an EXCEPT
pub data Kind : Type 0 where
  tree : Kind
  item : Kind
  binder : Kind
  field : Symbol → Kind
  definition : Kind
  arm : Kind
  step : Kind
  update : Kind

-- what an item stands for
abbrev pub ItemOf : Kind → Type 0
ItemOf tree = Tree
ItemOf item = Tree
ItemOf binder = List Name × Tree
ItemOf (field sign) = Name × Tree
ItemOf definition = Name × Tree
ItemOf arm = Tree × Tree
ItemOf step = Tree
ItemOf update = List Tree × Tree

-- what stands between two items, or else what a further item begins with
abbrev pub between_of : Kind → Between
between_of item = separator.ListNext
between_of arm = separator.Arm
between_of definition = separator.Name
between_of step = separator.Step
between_of _ = separator.Comma

-- the tokens that stand between two items
abbrev pub tokens_between : Between → List Token
tokens_between separator.Comma = t.Symbol sign.Comma ∷ []
tokens_between separator.Arm = t.Symbol sign.Box ∷ []
tokens_between separator.ListNext = t.ListNext ∷ []
tokens_between _ = []

abbrev pub between : Kind → List Token
between k = tokens_between (between_of k)

-- it ends in a CASE
abbrev pub is_case : Ending → Bool
is_case ending.Case = true
is_case _ = false

-- another item may stand behind one that ends so: an arm of a CASE doesn't stand behind one that ends in a CASE
abbrev pub follows : Between → Ending → Bool
follows separator.Arm o = not (is_case o)
follows _ o = true

abbrev pub may_follow : Kind → Ending → Bool
may_follow k o = follows (between_of k) o
