use Rattle.std.proofs.Common.{◌≡◌, ℕ, ◌<◌, ◌≤◌, ◌+◌, false, get_or, vec_len, vec_capacity, Some, slice_get}
use Rattle.std.specs.Mem.Slots.{slots_filled, slots_len, slots_items}
use Rattle.std.specs.Mem.Slots.Ownership.{Filled}
use Rattle.pgo_table.specs.Closing.{ContentAt}
use Rattle.pgo_shared.proofs.closing.emptied.Given as goal

abbrev pub invariant-loop-i : goal.invariant-loop-i
invariant-loop-i g l = record {
  same : slots_items l.closed.slots ≡ slots_items l.fn.closed.slots;
  long : slots_len l.closed.slots ≡ l.places + 1;
  full : Filled (slots_filled l.closed.slots) l.i (slots_len l.closed.slots);
  taken : (k : ℕ) → k < l.i → get_or (slots_filled l.closed.slots) k false ≡ false;
  made : vec_len l.contents ≡ l.i;
  room : l.places ≤ vec_capacity l.contents;
  each : (r : ℕ) (c : g.row.R.Denot) → slice_get l.contents.items r ≡ Some c → ContentAt (slots_items l.fn.closed.slots) r c;
}
