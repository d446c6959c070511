use Rattle.std.proofs.Common.{◌≡◌, ◌-◌, length, []}
use Rattle.pgo_expr_read.specs.Steps.{folded}
use Rattle.pgo_mpcal_read.specs.Reading.{one_more}
use Rattle.pgo_module_read.specs.Reading.{is_action, action}
use Rattle.pgo_module_read.proofs.rows.actions.Given as goal

abbrev pub invariant-loop-turn : goal.invariant-loop-turn
invariant-loop-turn l = folded is_action (one_more action) (length l.fn.cursor) [] l.fn.cursor ≡ folded is_action (one_more action) (l._turn-end - l._turn) l.all l.cursor
