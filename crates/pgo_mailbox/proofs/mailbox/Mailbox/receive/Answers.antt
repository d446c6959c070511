use Rattle.std.proofs.Common.{sym, subst, option_map}
use Rattle.pgo_base.specs.View.{data_of}
use Rattle.pgo_mailbox.specs.Boxed.{ReceivedBy, shown_by}
use Rattle.pgo_mailbox.specs.BoxView.{content_view}
use Rattle.pgo_mailbox.proofs.mailbox.Mailbox.receive.Goals as goal

pub returns-in-Messages : goal.returns-in-Messages
returns-in-Messages c =
    subst (λ k. ReceivedBy c.args.m.now (option_map (λ v. data_of v.now) c.args.at) (content_view k c.args.self.now.count) (shown_by c.receive.new.queue c.args.self.now.count) c.receive.result) (sym c.in-Messages.is)
    (c.receive.ensures c.args.self.now.count)
