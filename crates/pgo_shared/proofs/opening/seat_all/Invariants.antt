use Rattle.std.proofs.Common.{◌≡◌, ℕ, ◌<◌, ◌≤◌, get_or, vec_len, vec_capacity}
use Rattle.pgo_table.specs.Openings.{AreSpare}
use Rattle.pgo_shared.specs.Seats.{IsFreshSeat}
use Rattle.pgo_shared.proofs.opening.seat_all.Given as goal

abbrev pub invariant-loop-k : goal.invariant-loop-k
invariant-loop-k g l = record {
  spare : AreSpare {C = g.row.R.Denot} l.seat.me l.k l.count;
  same : l.seat.table_id ≡ l.shared.table.shared.table_id;
  terms : l.seat.me.0.terms ≡ l.shared.table.shared.key;
  made : vec_len l.seats ≡ l.k;
  room : l.count ≤ vec_capacity l.seats;
  each : (k : ℕ) (d : _) → k < l.k → IsFreshSeat l.shared k (get_or l.seats.items k d);
}
