use Rattle.std.proofs.Common.{◌∙◌}
use Rattle.pgo_meaning.specs.System.{system_of}
use Rattle.pgo_execute.proofs.QuietStatus.{told_with, told_without}
use Rattle.pgo_execute.proofs.status.status_of_run.Goals as goal

pub returns-then-status-ne21 : goal.returns-then-status-ne21
returns-then-status-ne21 c settings g is good =
    let y = system_of c.args.bound.now in
    told_without y settings g c.run_status-status.result (c.run_status-status.ensures y settings g is) c.if-status-ne21.true

pub returns : goal.returns
returns c settings g is good =
    let b = c.args.bound.now in
    c.status_left.ensures
    ∙ told_with b settings g c.run_status-status.result c.in_ok-quiet.quiet (c.run_status-status.ensures (system_of b) settings g is) c.if-status-ne21.false (c.in_ok-quiet.ensures settings g is.start is.entries good)
