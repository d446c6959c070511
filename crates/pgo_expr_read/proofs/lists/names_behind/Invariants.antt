use Rattle.std.proofs.Common.{◌≡◌, ◌-◌, length}
use Rattle.pgo_lexer.specs.declared.symbol.Symbol.TheVariants as sign
use Rattle.pgo_expr_read.specs.Lookahead.{sees}
use Rattle.pgo_expr_read.specs.Reading.{folded, one_more_name}
use Rattle.pgo_expr_read.proofs.lists.names_behind.Given as goal

abbrev pub invariant-loop-turn : goal.invariant-loop-turn
invariant-loop-turn l = folded (sees sign.Comma) one_more_name (length l.fn.cursor) l.fn.first l.fn.cursor ≡ folded (sees sign.Comma) one_more_name (l._turn-end - l._turn) l.all l.cursor
