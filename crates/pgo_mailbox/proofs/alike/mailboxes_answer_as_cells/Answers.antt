use Rattle.pgo_mailbox.proofs.AlikeLaws.{alike}
use Rattle.pgo_mailbox.proofs.alike.mailboxes_answer_as_cells.Goals as goal

pub returns : goal.returns
returns c = alike
