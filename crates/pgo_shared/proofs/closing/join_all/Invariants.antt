use Rattle.std.proofs.Common.{◌≡◌, ◌∷◌, ◌++◌, false, map, length, vec_len}
use Rattle.pgo_table.specs.Closing.{turned_round}
use Rattle.pgo_shared.specs.Seats.{AllAreOf, history_of}
use Rattle.pgo_shared.proofs.closing.join_all.Given as goal

abbrev pub invariant-loop-other : goal.invariant-loop-other
invariant-loop-other g l = record {
  same : l.seat.table_id ≡ l.shared.table.shared.table_id;
  live : (l.seat.me.0.gone ≡ false) × (l.seat.me.0.has ≡ false) × (length l.seat.me.0.holds ≡ 0) × (length l.seat.me.0.spare ≡ 0);
  known : (l.seat.me.0.me ∷ l.seat.me.0.joined) ++ turned_round (map history_of l.seats.items) ≡ turned_round (map history_of l.fn.seats.items);
  all : AllAreOf l.shared l.seats.items;
}

abbrev pub decreases-loop-other : goal.decreases-loop-other
decreases-loop-other g l = vec_len l.seats
