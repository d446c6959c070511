use Rattle.std.proofs.Common.{◌≡◌, ◌-◌, length, []}
use Rattle.pgo_expr_read.specs.Steps.{folded}
use Rattle.pgo_mpcal_read.specs.Reading.{one_more}
use Rattle.pgo_mpcal_read.proofs.item.row.Given as goal

abbrev pub invariant-loop-turn : goal.invariant-loop-turn
invariant-loop-turn g l = folded g.T.RowItem.begins (one_more g.T.Item.parser) (length l.fn.cursor) [] l.fn.cursor ≡ folded g.T.RowItem.begins (one_more g.T.Item.parser) (l._turn-end - l._turn) l.all l.cursor
