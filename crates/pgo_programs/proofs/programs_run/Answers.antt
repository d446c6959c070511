use Rattle.pgo_programs.proofs.Lowered.{tree_same, runs_same}
use Rattle.pgo_programs.proofs.programs_run.Goals as goal

pub returns-clause-trees : goal.returns-clause-trees
returns-clause-trees c b p e n h seed k a own = tree_same b p e n h seed k a own

pub returns-clause-runs : goal.returns-clause-runs
returns-clause-runs c b p settings e n h r = runs_same b p settings e n h r
