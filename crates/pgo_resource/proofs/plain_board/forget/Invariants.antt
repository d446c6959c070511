use Rattle.std.proofs.Common.{◌≡◌, true}
use Rattle.pgo_resource.specs.PlainRows.{before}
use Rattle.pgo_resource.proofs.plain_board.forget.Given as goal

abbrev pub invariant-loop-index : goal.invariant-loop-index
invariant-loop-index l = (before l.index l.held.items l.r ≡ true) × (l.held ≡ l.fn.held)
