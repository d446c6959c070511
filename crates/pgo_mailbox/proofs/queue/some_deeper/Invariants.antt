use Rattle.std.proofs.Common.{◌≤◌, max, map, drop}
use Rattle.pgo_base.specs.Size.{members_size}
use Rattle.pgo_base.specs.View.{data_of}
use Rattle.pgo_mailbox.proofs.queue.some_deeper.Given as goal

abbrev pub invariant-loop-i : goal.invariant-loop-i
invariant-loop-i l = record {
  below : members_size (drop l.taken (map data_of l.messages.items)) ≤ max l.limit (members_size (drop l.i (map data_of l.messages.items)));
  above : members_size (drop l.i (map data_of l.messages.items)) ≤ members_size (drop l.taken (map data_of l.messages.items));
}
