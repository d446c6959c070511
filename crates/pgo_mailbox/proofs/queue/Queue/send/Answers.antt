use Rattle.pgo_mailbox.proofs.QueueLaws.{after_put}
use Rattle.pgo_mailbox.proofs.queue.Queue.send.Goals as goal

pub invariant_of-self-2 : goal.invariant_of-self-2
invariant_of-self-2 c =
    (after_put c.self.inside.messages.items c.self.inside.base c.self.inside.taken c.self.invariant c.args.self.now c.self.view_is c.args.v.now c.in_ok-v.v c.push_back.new.self.items c.len.result c.is_deeper.result c.in_ok-push_back.ensures.items c.in_ok-v.ensures c.len.ensures c.if-len-ge-MOST_MESSAGES.false c.if-is_deeper.false c.is_deeper.ensures).0

pub returns : goal.returns
returns c =
    let q = after_put c.self.inside.messages.items c.self.inside.base c.self.inside.taken c.self.invariant c.args.self.now c.self.view_is c.args.v.now c.in_ok-v.v c.push_back.new.self.items c.len.result c.is_deeper.result c.in_ok-push_back.ensures.items c.in_ok-v.ensures c.len.ensures c.if-len-ge-MOST_MESSAGES.false c.if-is_deeper.false c.is_deeper.ensures in
    (q.1, q.0.now_fits)
