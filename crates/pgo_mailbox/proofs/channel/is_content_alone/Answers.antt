use Rattle.std.proofs.Common.{sym}
use Rattle.pgo_mailbox.proofs.Tested.{not_alone}
use Rattle.pgo_mailbox.proofs.channel.is_content_alone.Goals as goal

pub returns-else-items-eq1 : goal.returns-else-items-eq1
returns-else-items-eq1 c = sym (not_alone c.as_slice-items.result.now c.args.list.now c.as_slice-items.ensures c.if-items-eq1.false)
