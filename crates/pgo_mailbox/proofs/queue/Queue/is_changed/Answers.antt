use Rattle.std.proofs.Common.{ap, map, nat_eq, ◌∙◌}
use Rattle.std.specs.Prelude.{not}
use Rattle.pgo_base.specs.View.{data_of}
use Rattle.pgo_mailbox.proofs.QueueViews.{differ_in_length, same_as_taken, by_moved}
use Rattle.pgo_mailbox.proofs.queue.Queue.is_changed.Goals as goal

pub returns-then-len-self : goal.returns-then-len-self
returns-then-len-self c =
    differ_in_length (map data_of c.self.inside.messages.items) c.self.inside.base c.self.inside.taken c.self.invariant c.args.self.now c.self.view_is c.len.result c.len.ensures c.if-len-self.true

pub returns-then-self-ne0 : goal.returns-then-self-ne0
returns-then-self-ne0 c =
    by_moved (map data_of c.self.inside.messages.items) c.self.inside.base c.self.inside.taken c.self.invariant c.args.self.now c.self.view_is c.len.result c.len.ensures c.if-len-self.false c.are_moved.result c.are_moved.ensures.same c.are_moved.ensures.other

pub returns-else-self-ne0 : goal.returns-else-self-ne0
returns-else-self-ne0 c =
    ap (λ k. not (nat_eq k 0)) c.if-self-ne0.false
    ∙ same_as_taken (map data_of c.self.inside.messages.items) c.self.inside.base c.self.inside.taken c.self.invariant c.args.self.now c.self.view_is c.len.result c.len.ensures c.if-len-self.false c.if-self-ne0.false
