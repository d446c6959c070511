use Rattle.std.proofs.Common.{◌≡◌, ◌-◌, length}
use Rattle.pgo_expr_read.specs.Reading.{expr, more}
use Rattle.pgo_expr_read.proofs.grammar.Grammar.more.Given as goal

abbrev pub invariant-loop-turn : goal.invariant-loop-turn
invariant-loop-turn g l = more l.self.limit (expr l.self.below) l.least (length l.fn.cursor) l.fn.first l.fn.cursor ≡ more l.self.limit (expr l.self.below) l.least (l._turn-end - l._turn) l.left l.cursor
