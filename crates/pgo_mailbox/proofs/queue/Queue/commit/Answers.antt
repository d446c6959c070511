use Rattle.std.proofs.Common.{◌∙◌}
use Rattle.pgo_mailbox.proofs.QueueLaws.{after_commit}
use Rattle.pgo_mailbox.proofs.queue.Queue.commit.Goals as goal

pub invariant_of-self : goal.invariant_of-self
invariant_of-self c =
    (after_commit c.self.inside.messages.items c.self.inside.base c.self.inside.taken c.self.invariant c.args.self.now c.self.view_is c.drop_first.new.messages.items c.len-self-inside.result c.drop_first.ensures
    (c.len-self-inside.ensures ∙ c.drop_first.new.messages.ok.0)).0

pub returns : goal.returns
returns c =
    (after_commit c.self.inside.messages.items c.self.inside.base c.self.inside.taken c.self.invariant c.args.self.now c.self.view_is c.drop_first.new.messages.items c.len-self-inside.result c.drop_first.ensures
    (c.len-self-inside.ensures ∙ c.drop_first.new.messages.ok.0)).1
