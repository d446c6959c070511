use Rattle.pgo_accept.specs.Answers.{Expands}
use Rattle.pgo_accept.proofs.Refused.{unread, of_read}
use Rattle.pgo_accept.proofs.accept.expansion.Goals as goal

pub returns-in-Ok : goal.returns-in-Ok
returns-in-Ok c = of_read (λ s q. Expands s c.args.consts.now q) c.args.text.now c.in-Ok.system c.expanded.result c.in-Ok.ensures c.expanded.ensures

pub returns-in-Err : goal.returns-in-Err
returns-in-Err c = unread (λ s q. Expands s c.args.consts.now q) c.args.text.now c.in-Err.rejection c.in-Err.ensures
