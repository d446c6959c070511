use Rattle.pgo_turn_rows.proofs.AcceptedRuns.{accepted_runs}
use Rattle.pgo_turn_rows.proofs.accepted.accepted.Goals as goal

pub returns-in-Ok : goal.returns-in-Ok
returns-in-Ok c =
    accepted_runs c.texts_are_accepted.ensures.accepted c.accepted_runs.ensures.runnable c.accepted_runs.ensures.workers c.args.text.now c.args.consts.now c.in-Ok.bound c.in-Ok.ensures.answers c.in-Ok.ensures.sound
