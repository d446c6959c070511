use Rattle.std.proofs.Common.{refl}
use Rattle.pgo_table.specs.SeatViews.{no_history}
use Rattle.pgo_joined.proofs.Runs.{fresh_board}
use Rattle.pgo_joined.proofs.new_boards_are_fresh.Goals as goal

pub returns : goal.returns
returns c y settings terms k steps share = fresh_board y settings terms k (no_history k) steps share refl
