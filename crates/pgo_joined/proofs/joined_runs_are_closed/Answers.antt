use Rattle.pgo_joined.proofs.Runs.{closed_run, may_close}
use Rattle.pgo_joined.proofs.joined_runs_are_closed.Goals as goal

pub returns-clause-may_close : goal.returns-clause-may_close
returns-clause-may_close g c y tree walk settings jobs after run ends = may_close y tree walk settings c.args.shared.now jobs after c.args.workers.now c.args.seats.now run ends

pub returns-clause-closed : goal.returns-clause-closed
returns-clause-closed g c y tree walk settings jobs after entries notes asked run ends closed = closed_run y tree walk settings c.args.shared.now jobs after c.args.workers.now c.args.seats.now run ends entries notes asked closed
