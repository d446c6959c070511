use Rattle.std.proofs.Common.{◌≡◌, length, reverse}
use Rattle.pgo_translate.specs.Rows.{row_items}
use Rattle.pgo_translate.proofs.rows.row_items.Given as goal

abbrev pub invariant-loop-step : goal.invariant-loop-step
invariant-loop-step l = row_items l.left (reverse l.items.items) ≡ row_items l.row (reverse l.fn.rest.items)

abbrev pub decreases-loop-step : goal.decreases-loop-step
decreases-loop-step l = length l.left
