use Rattle.std.proofs.Common.{sym, subst, ◌∙◌, option_map}
use Rattle.pgo_base.specs.View.{data_of}
use Rattle.pgo_mailbox.specs.Boxed.{ReceivedBy, shown_by}
use Rattle.pgo_mailbox.proofs.Boxes.{received_so}
use Rattle.pgo_mailbox.proofs.mailbox.receive.Goals as goal

pub returns-then-takes_first : goal.returns-then-takes_first
returns-then-takes_first c = λ count.
    subst (ReceivedBy c.args.m.now (option_map (λ v. data_of v.now) c.args.at) (shown_by c.args.queue.now count) (shown_by c.receive.new.self count)) (sym c.received.ensures)
    (received_so c.args.m.now _ (sym c.takes_first.ensures ∙ c.if-takes_first.true) c.args.queue.now c.receive.new.self c.receive.result c.receive.ensures count)
