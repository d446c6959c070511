use Rattle.std.proofs.Common.{◌≡◌, ◌-◌}
use Rattle.pgo_table.specs.SeatCalls.{turned_by}
use Rattle.pgo_shared.proofs.instance_seat.turn_by.Given as goal

abbrev pub invariant-loop-i : goal.invariant-loop-i
invariant-loop-i g l = (l.seat.table_id ≡ l.initial.seat.table_id) × (l.seat.id ≡ l.initial.seat.id) × (l.seat.me.0 ≡ l.initial.seat.me.0) × (turned_by (l.n - l._i) l.seat.me.1 ≡ turned_by l.n l.initial.seat.me.1)
