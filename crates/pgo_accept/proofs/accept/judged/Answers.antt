use Rattle.pgo_scope.specs.Refusal.{scope_refusal}
use Rattle.pgo_accept.specs.Answers as answers
use Rattle.pgo_accept.proofs.Refused.{nothing_refused}
use Rattle.pgo_accept.proofs.accept.judged.Goals as goal

pub labeled-requires : goal.labeled-requires
labeled-requires c = nothing_refused (scope_refusal c.args.system.now) c.in-Ok.field-0 c.in-Ok.ensures

pub returns-in-Err-clause-judges : goal.returns-in-Err-clause-judges
returns-in-Err-clause-judges c = answers.names c.in-Err.error c.in-Err.ensures
