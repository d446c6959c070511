use Rattle.std.proofs.Common.{◌≡◌, ◌≤◌, ◌-◌, map, take, drop}
use Rattle.pgo_base.specs.View.{data_of, pair_of}
use Rattle.pgo_model.specs.Operators.{sequence_at}
use Rattle.pgo_mailbox.proofs.queue.sequence.Given as goal

abbrev pub invariant-loop-i : goal.invariant-loop-i
invariant-loop-i l = record {
  pairs : map pair_of l.pairs.items ≡ sequence_at 1 (take (l.i - l.from) (drop l.from (map data_of l.messages.items)));
  low : l.from ≤ l.i;
}
