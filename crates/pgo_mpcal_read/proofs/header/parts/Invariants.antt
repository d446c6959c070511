use Rattle.std.proofs.Common.{◌≡◌, ◌-◌, length}
use Rattle.pgo_mpcal_read.specs.ReadingSpec.{some_left, part}
use Rattle.pgo_expr_read.specs.Steps.{folded}
use Rattle.pgo_mpcal_read.proofs.header.parts.Given as goal

abbrev pub invariant-loop-turn : goal.invariant-loop-turn
invariant-loop-turn l = folded some_left part (length l.fn.cursor) l.fn.first l.fn.cursor ≡ folded some_left part (l._turn-end - l._turn) l.all l.cursor
