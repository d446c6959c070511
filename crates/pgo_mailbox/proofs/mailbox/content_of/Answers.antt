use Rattle.pgo_base.specs.View.{data_of}
use Rattle.pgo_mailbox.proofs.Boxes.{begun_by}
use Rattle.pgo_mailbox.proofs.mailbox.content_of.Goals as goal

pub returns-in-Some : goal.returns-in-Some
returns-in-Some c = begun_by (data_of c.args.v) c.in_ok-found.found c.in-Some.queue c.in_ok-found.ensures c.in-Some.is
