use Rattle.pgo_accept.specs.Answers as answers
use Rattle.pgo_accept.proofs.Accepted.{accepted_well_named}
use Rattle.pgo_accept.proofs.accept.bound.Goals as goal

pub returns-in-Ok-clause-judges : goal.returns-in-Ok-clause-judges
returns-in-Ok-clause-judges c = answers.bound c.in-Ok.made c.requires.names c.requires.labels c.in-Ok.ensures.answers.0 c.in-Ok.ensures.answers.1

pub returns-in-Ok-clause-sound : goal.returns-in-Ok-clause-sound
returns-in-Ok-clause-sound c =
    c.in-Ok.ensures.sound (accepted_well_named c.args.system.now c.args.consts.now c.requires.names c.requires.labels c.in-Ok.ensures.answers.0)

pub returns-in-Ok-clause-declared : goal.returns-in-Ok-clause-declared
returns-in-Ok-clause-declared c =
    c.in-Ok.ensures.declared (accepted_well_named c.args.system.now c.args.consts.now c.requires.names c.requires.labels c.in-Ok.ensures.answers.0)

pub returns-in-Err-clause-judges : goal.returns-in-Err-clause-judges
returns-in-Err-clause-judges c = answers.binding c.in-Err.error c.requires.names c.requires.labels c.in-Err.ensures.answers
