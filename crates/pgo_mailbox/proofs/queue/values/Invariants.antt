use Rattle.std.proofs.Common.{◌≡◌, map, take}
use Rattle.pgo_base.specs.PairsView.{all_pairs}
use Rattle.pgo_base.specs.View.{data_of, value_of}
use Rattle.pgo_mailbox.proofs.queue.values.Given as goal

abbrev pub invariant-loop-i : goal.invariant-loop-i
invariant-loop-i l = map data_of l.list.items ≡ map value_of (take l.i (all_pairs l.pairs))
