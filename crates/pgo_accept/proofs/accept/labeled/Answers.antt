use Rattle.pgo_accept.specs.Answers as answers
use Rattle.pgo_accept.proofs.accept.labeled.Goals as goal

pub returns-in-Err-clause-judges : goal.returns-in-Err-clause-judges
returns-in-Err-clause-judges c = answers.labels c.in-Err.error c.requires c.in-Err.ensures
