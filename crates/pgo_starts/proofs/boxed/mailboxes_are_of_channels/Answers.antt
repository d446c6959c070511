use Rattle.pgo_starts.proofs.BoxedLaws.{told_by_channels}
use Rattle.pgo_starts.proofs.boxed.mailboxes_are_of_channels.Goals as goal

pub returns : goal.returns
returns c = told_by_channels
