use Rattle.pgo_accept.proofs.Refused.{passes}
use Rattle.pgo_accept.proofs.accept.checked.Goals as goal

pub returns-in-Ok-clause-passes : goal.returns-in-Ok-clause-passes
returns-in-Ok-clause-passes c = passes c.args.system.now c.args.consts.now c.in-Ok._bound c.in-Ok.ensures.judges
