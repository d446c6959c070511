use Rattle.std.proofs.Common.{sym, subst, option_map}
use Rattle.pgo_base.specs.View.{data_of}
use Rattle.pgo_mailbox.specs.Boxed.{SentBy, shown_by}
use Rattle.pgo_mailbox.specs.BoxView.{content_view}
use Rattle.pgo_mailbox.proofs.mailbox.Mailbox.send.Goals as goal

pub returns-in-Messages : goal.returns-in-Messages
returns-in-Messages c =
    subst (λ k. SentBy c.args.m.now c.args.env.defs.now (data_of c.args.env.id.now) (option_map (λ v. data_of v.now) c.args.at) (data_of c.args.v.now) (content_view k c.args.self.now.count) (shown_by c.send.new.queue c.args.self.now.count) c.send.result) (sym c.in-Messages.is)
    (c.send.ensures c.args.self.now.count)
