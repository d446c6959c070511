use Rattle.pgo_bundle.proofs.RunChecked.{checked_is}
use Rattle.pgo_bundle.proofs.run_logs_are_checked.Goals as goal

pub returns : goal.returns
returns c y settings f status = checked_is y settings f status
