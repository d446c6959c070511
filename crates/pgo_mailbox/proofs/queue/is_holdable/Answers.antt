use Rattle.pgo_base.specs.View.{data_of}
use Rattle.pgo_mailbox.proofs.QueueLaws.{not_not}
use Rattle.pgo_mailbox.proofs.Sequences.{holdable}
use Rattle.pgo_mailbox.proofs.queue.is_holdable.Goals as goal

pub returns-then-is_short : goal.returns-then-is_short
returns-then-is_short c = λ t. holdable (data_of c.args.v.now) (c.is_short.ensures c.if-is_short.true) (not_not c.is_deeper.result t c.is_deeper.ensures)
