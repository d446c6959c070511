use Rattle.std.proofs.Common.{◌≡◌, ◌+◌, ◌<◌, ◌≤◌, ℕ, All, get_or, length, vec_capacity}
use Rattle.pgo_shared.specs.Seats.{IsFreshSeat}
use Rattle.pgo_table_rows.specs.Clients.{IsClientOf}
use Rattle.pgo_table_rows.proofs.clients.Clients.new.Given as goal

abbrev pub invariant-loop-seat : goal.invariant-loop-seat
invariant-loop-seat l = record {
  count : length l.list.items + length l.seat-iterator.rest.items ≡ length l.fn.seats.items;
  capacity : length l.fn.seats.items ≤ vec_capacity l.list;
  fresh : (j : ℕ) (d : _) → j < length l.seat-iterator.rest.items → IsFreshSeat l.shared (length l.list.items + j) (get_or l.seat-iterator.rest.items j d);
  made : All (IsClientOf l.shared) l.list.items;
}
