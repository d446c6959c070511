use Rattle.pgo_bundle.proofs.RunTied.{run_is_tied}
use Rattle.pgo_bundle.proofs.runs_are_tied.Goals as goal

pub returns : goal.returns
returns c = run_is_tied
