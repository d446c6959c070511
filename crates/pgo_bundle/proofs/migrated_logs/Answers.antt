use Rattle.pgo_bundle.proofs.MigratedLaws.{checked_same}
use Rattle.pgo_bundle.proofs.migrated_logs.Goals as goal

pub returns-clause-checked : goal.returns-clause-checked
returns-clause-checked c l = checked_same l
