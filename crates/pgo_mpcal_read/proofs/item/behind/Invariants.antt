use Rattle.std.proofs.Common.{◌≡◌, ◌-◌, length}
use Rattle.pgo_mpcal_read.specs.Signs.{sees}
use Rattle.pgo_expr_read.specs.Steps.{folded}
use Rattle.pgo_mpcal_read.specs.Reading.{one_behind}
use Rattle.pgo_mpcal_read.proofs.item.behind.Given as goal

abbrev pub invariant-loop-turn : goal.invariant-loop-turn
invariant-loop-turn g l = folded (sees l.fn.sign) (one_behind l.fn.sign g.T.Item.parser) (length l.fn.cursor) l.fn.first l.fn.cursor ≡ folded (sees l.fn.sign) (one_behind l.fn.sign g.T.Item.parser) (l._turn-end - l._turn) l.all l.cursor
