use Rattle.std.proofs.Common.{ap}
use Rattle.pgo_execute.proofs.status.runnable.Goals as goal

pub returns-clause-bound : goal.returns-clause-bound
returns-clause-bound c = ap (λ r. r.now) c.in_ok-sections.ensures.bound

pub returns-clause-runs : goal.returns-clause-runs
returns-clause-runs c settings =
    c.programs_run.ensures.runs c.args.bound.now c.in_ok-sections.sections.program settings (ap (λ r. r.now) c.in_ok-sections.ensures.bound) c.requires.sound.numbered c.in_ok-sections.ensures.codes (c.requires.runs.under settings)
