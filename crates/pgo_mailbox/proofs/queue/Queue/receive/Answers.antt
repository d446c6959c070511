use Rattle.std.proofs.Common.{refl}
use Rattle.pgo_mailbox.proofs.QueueLaws.{after_take}
use Rattle.pgo_mailbox.proofs.queue.Queue.receive.Goals as goal

pub invariant_of-self : goal.invariant_of-self
invariant_of-self c =
    (after_take c.self.inside.messages.items c.self.inside.base c.self.inside.taken c.self.invariant c.args.self.now c.self.view_is c.in-Some.v.now c.in_ok-v-in-Some.v _ (c.in-Some.ensures.variant.0 refl) c.self.inside.messages.ok.0 c.in-Some.ensures.lookup c.in_ok-v-in-Some.ensures).0

pub returns-in_ok-v-in-Some : goal.returns-in_ok-v-in-Some
returns-in_ok-v-in-Some c =
    let q = after_take c.self.inside.messages.items c.self.inside.base c.self.inside.taken c.self.invariant c.args.self.now c.self.view_is c.in-Some.v.now c.in_ok-v-in-Some.v _ (c.in-Some.ensures.variant.0 refl) c.self.inside.messages.ok.0 c.in-Some.ensures.lookup c.in_ok-v-in-Some.ensures in
    (q.1, q.2, q.3)
