use Rattle.std.proofs.Common.{sym}
use Rattle.pgo_mailbox.proofs.Tested.{not_both}
use Rattle.pgo_mailbox.proofs.channel.are_both.Goals as goal

pub returns-else-items-eq2 : goal.returns-else-items-eq2
returns-else-items-eq2 c = sym (not_both c.as_slice-items.result.now c.args.list.now c.as_slice-items.ensures c.if-items-eq2.false)
