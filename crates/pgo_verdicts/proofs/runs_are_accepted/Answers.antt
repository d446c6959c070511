use Rattle.pgo_execute.specs.Ran.{system}
use Rattle.pgo_verdicts.proofs.Accepted.{accepted}
use Rattle.pgo_verdicts.proofs.runs_are_accepted.Goals as goal

pub returns : goal.returns
returns c text consts settings schedule status written x = record {
  executes = x;
  accepted = accepted text consts settings schedule status written x (c.run_logs_are_checked.ensures (system x.spec consts) settings x.left status);
}
