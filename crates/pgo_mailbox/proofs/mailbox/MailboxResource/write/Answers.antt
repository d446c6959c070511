use Rattle.std.proofs.Common.{option_map}
use Rattle.pgo_base.specs.View.{data_of}
use Rattle.pgo_mailbox.specs.BoxView.{box_view}
use Rattle.pgo_mailbox.proofs.Boxes.{write_given}
use Rattle.pgo_mailbox.proofs.mailbox.MailboxResource.write.Goals as goal

pub returns-in-Ok-true : goal.returns-in-Ok-true
returns-in-Ok-true c =
    write_given c.args.m.now c.args.env.defs.now (data_of c.args.env.id.now) (option_map (λ v. data_of v.now) c.args.at) (data_of c.args.v) (box_view c.args.self.now) (box_view c.send.new.self) c.send.result c.send.ensures c.in-Ok-true.field-0 c.in-Ok-true.is c.in-Ok-true.field-0-test
    c.args.picks.now
