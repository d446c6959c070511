use Rattle.std.proofs.Common.{◌≡◌, ◌-◌, length}
use Rattle.pgo_expr_read.specs.Lookahead.{sees_list_next}
use Rattle.pgo_expr_read.specs.Reading.{expr, folded, one_more_joined}
use Rattle.pgo_expr_read.proofs.grammar.Grammar.joined_behind.Given as goal

abbrev pub invariant-loop-turn : goal.invariant-loop-turn
invariant-loop-turn g l = folded sees_list_next (one_more_joined l.self.limit (expr l.self.below) l.op) (length l.fn.cursor) l.fn.first l.fn.cursor ≡ folded sees_list_next (one_more_joined l.self.limit (expr l.self.below) l.op) (l._turn-end - l._turn) l.all l.cursor
