-- Which texts spell an expression.
use Rattle.std.specs.Prelude.{◌≡◌, ℕ, false, List, Result, Ok, Err}
use Rattle.pgo_base.specs.declared.expr.Expr.{Expr}
use Rattle.pgo_base.specs.ExprView.{tree}
use Rattle.pgo_base.specs.Tree.{Tree}
use Rattle.pgo_lexer.specs.declared.token.Lexeme.{Lexeme}
use Rattle.pgo_lexer.specs.declared.errors.TextStop.{TextStop}
use Rattle.pgo_lexer.specs.declared.errors.TextStop.TheVariants.{Syntax, NoMemory}
use Rattle.pgo_lexer.specs.Tokenized.{Tokenized}
use Rattle.pgo_expr_read.specs.Lookahead.{tokens_of, has_mapped}
use Rattle.pgo_expr_read.specs.Spells.{Spells}

-- the most tokens of a text
abbrev pub most_tokens : ℕ
most_tokens = 4294967295

-- the text has tokens, with the marks of its junction lists, that spell the tree, which is no higher than the limit
pub record SpellsText (limit : ℕ) (text : List ℕ) (a : Tree) : Type 0 where
  pub tokens : List Lexeme
  pub tokenized : Tokenized most_tokens text tokens
  pub spells : Spells limit (tokens_of tokens) a
  -- `$variable` and `$value` stand in a mapping macro alone
  pub plain : has_mapped (tokens_of tokens) ≡ false

-- an answer is this tree, unless memory ran out
abbrev pub IsOrNoMemory : Result Expr TextStop → Tree → Type 0
IsOrNoMemory (Ok e) a = tree e ≡ a
IsOrNoMemory (Err (Syntax offset)) a = ⊥
IsOrNoMemory (Err NoMemory) a = Unit {0}
