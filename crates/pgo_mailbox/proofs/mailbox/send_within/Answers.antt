use Rattle.std.proofs.Common.{◌≡◌, true, sym, subst, length, rules, int_lt, pos}
use Rattle.pgo_base.specs.View.{data_of}
use Rattle.pgo_mailbox.specs.Boxed.{SentWithin}
use Rattle.pgo_mailbox.proofs.Boxes.{sent_within}
use Rattle.pgo_mailbox.proofs.mailbox.send_within.Goals as goal

pub returns-then-is_below : goal.returns-then-is_below
returns-then-is_below c =
    let below : int_lt (pos (length c.args.queue.now.1)) c.args.most ≡ true = search rules in
    subst (SentWithin c.args.most (data_of c.args.v.now) c.args.queue.now c.send.new.self) (sym c.sent.ensures)
    (sent_within c.args.most (data_of c.args.v.now) c.args.queue.now c.send.new.self below c.send.result c.send.ensures)
