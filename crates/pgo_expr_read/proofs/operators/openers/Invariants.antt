use Rattle.std.proofs.Common.{◌≡◌, ◌-◌, [], length}
use Rattle.pgo_expr_read.specs.Reading.{openers}
use Rattle.pgo_expr_read.proofs.operators.openers.Given as goal

abbrev pub invariant-loop-turn : goal.invariant-loop-turn
invariant-loop-turn l = openers (length l.fn.cursor) [] l.fn.cursor ≡ openers (l._turn-end - l._turn) l.all l.cursor
