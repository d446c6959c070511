use Rattle.std.proofs.Common.{◌≡◌, ◌+◌, ◌≤◌, All, length, vec_capacity}
use Rattle.pgo_shared.specs.Seats.{AllAreOf}
use Rattle.pgo_table_rows.specs.Clients.{IsClientOf}
use Rattle.pgo_table_rows.proofs.clients.Clients.end.Given as goal

abbrev pub invariant-loop-client : goal.invariant-loop-client
invariant-loop-client l = record {
  count : length l.seats.items + length l.client-iterator.rest.items ≡ length l.fn.self.list.items;
  capacity : length l.fn.self.list.items ≤ vec_capacity l.seats;
  left : All (IsClientOf l.fn.self.shared.now) l.client-iterator.rest.items;
  ended : AllAreOf l.fn.self.shared.now l.seats.items;
}
