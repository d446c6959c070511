use Rattle.std.proofs.Common.{◌≡◌, map, take, drop}
use Rattle.pgo_base.specs.View.{data_of}
use Rattle.pgo_mailbox.proofs.queue.are_moved.Given as goal

abbrev pub invariant-loop-i : goal.invariant-loop-i
invariant-loop-i l = take l.i (map data_of l.messages.items) ≡ take l.i (drop l.taken (map data_of l.messages.items))
