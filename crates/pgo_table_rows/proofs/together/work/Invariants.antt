use Rattle.std.proofs.Common.{◌≡◌}
use Rattle.pgo_shared.specs.SeatBoards.{table_of}
use Rattle.pgo_table_rows.specs.Clients.{Stands}
use Rattle.pgo_table_rows.proofs.together.work.Given as goal

abbrev pub invariant-loop-left : goal.invariant-loop-left
invariant-loop-left l = Stands l.client × (table_of l.client.board ≡ table_of l.fn.client.board)

abbrev pub decreases-loop-left : goal.decreases-loop-left
decreases-loop-left l = l.left
