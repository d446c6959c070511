use Rattle.std.proofs.Common.{option_map}
use Rattle.pgo_base.specs.View.{data_of}
use Rattle.pgo_mailbox.specs.BoxView.{box_view}
use Rattle.pgo_mailbox.proofs.Boxes.{read_given}
use Rattle.pgo_mailbox.proofs.mailbox.MailboxResource.read.Goals as goal

pub returns-in-Ok-Some : goal.returns-in-Ok-Some
returns-in-Ok-Some c =
    read_given c.args.m.now (option_map (λ v. data_of v.now) c.args.at) (box_view c.args.self.now) (box_view c.receive.new.self) c.receive.result c.receive.ensures c.in-Ok-Some.field-0 c.in-Ok-Some.is c.in-Ok-Some.v c.in-Ok-Some.field-0-is
    c.args.env.defs.now (data_of c.args.env.id.now) c.args.picks.now
