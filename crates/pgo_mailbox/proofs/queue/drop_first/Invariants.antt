use Rattle.std.proofs.Common.{◌≡◌, drop}
use Rattle.pgo_mailbox.proofs.queue.drop_first.Given as goal

abbrev pub invariant-loop-left : goal.invariant-loop-left
invariant-loop-left l = drop l.left l.messages.items ≡ drop l.count l.fn.messages.items

abbrev pub decreases-loop-left : goal.decreases-loop-left
decreases-loop-left l = l.left
