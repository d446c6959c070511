-- What the reader reads at the front of some tokens, for readers of texts that hold expressions.
use Rattle.std.specs.Prelude.{◌≡◌, ◌≤◌, ℕ, false, List, ◌++◌}
use Rattle.pgo_base.specs.Tree.{Tree}
use Rattle.pgo_lexer.specs.declared.token.Token.{Token}
use Rattle.pgo_expr_read.specs.declared.lookahead.Next.{Next}
use Rattle.pgo_expr_read.specs.declared.lookahead.Next.TheVariants as next
use Rattle.pgo_expr_read.specs.declared.read.Ending.{Ending}
use Rattle.pgo_expr_read.specs.declared.read.Read.{Read}
use Rattle.pgo_expr_read.specs.Heights.{height}
use Rattle.pgo_expr_read.specs.Kinds.{is_case}
use Rattle.pgo_expr_read.specs.Spells.{Spelled, Range}
use Rattle.pgo_expr_read.specs.Table.{form_low}

-- what was read is spelled by a front of the tokens, and the rest follows
pub record IsFront (limit least : ℕ) (i : List Token) (r : Read Tree) (rest : List Token) : Type 0 where
  pub front : List Token
  pub split : i ≡ front ++ rest
  pub spelled : Spelled r.form r.ending front r.tree
  pub height : r.height ≡ height r.tree
  pub within : r.height ≤ limit
  pub level : least ≤ form_low r.form

-- the same of a set that names are bound over
pub record IsRange (limit : ℕ) (i : List Token) (r : Read Tree) (rest : List Token) : Type 0 where
  pub front : List Token
  pub split : i ≡ front ++ rest
  pub range : Range front r.tree
  pub height : r.height ≡ height r.tree
  pub within : r.height ≤ limit

-- what follows ends any expression: no operator, `[`, `.`, `(` or `'`, and no `[]` behind one that ends in a CASE
abbrev pub Ended : Ending → Next → Type 0
Ended o next.Arm = is_case o ≡ false
Ended o next.End = Unit {0}
Ended o _ = ⊥
