use Rattle.pgo_mailbox.proofs.QueueLaws.{after_abort}
use Rattle.pgo_mailbox.proofs.queue.Queue.abort.Goals as goal

pub invariant_of-self : goal.invariant_of-self
invariant_of-self c =
    (after_abort c.self.inside.messages.items c.self.inside.base c.self.inside.taken c.self.invariant c.args.self.now c.self.view_is c.truncate.new.self.items c.truncate.ensures.items).0

pub returns : goal.returns
returns c =
    (after_abort c.self.inside.messages.items c.self.inside.base c.self.inside.taken c.self.invariant c.args.self.now c.self.view_is c.truncate.new.self.items c.truncate.ensures.items).1
