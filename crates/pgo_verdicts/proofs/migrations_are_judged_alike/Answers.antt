use Rattle.pgo_verdicts.proofs.Migrations.{judged_alike}
use Rattle.pgo_verdicts.proofs.migrations_are_judged_alike.Goals as goal

pub returns : goal.returns
returns c text written v w x j k = judged_alike text written x v w j k
