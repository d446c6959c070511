use Rattle.pgo_model.specs.Choice.{Seeded, words_of}
use Rattle.pgo_accesses.proofs.Leads.{instance_there, code_there}
use Rattle.pgo_accesses.proofs.Patches.{next_of}
use Rattle.pgo_accesses.proofs.Programs.{trace_is, stuck_is, done_is}
use Rattle.pgo_accesses.proofs.Runs.{runs, start_good}
use Rattle.pgo_accesses.proofs.Within.{within_reach, reaches_resource}
use Rattle.pgo_accesses.proofs.sections_are_accesses.Goals as goal

pub returns-clause-trace : goal.returns-clause-trace
returns-clause-trace c b settings k a s R good = trace_is b R s good (words_of (Seeded settings.seed k a)) k

pub returns-clause-stuck : goal.returns-clause-stuck
returns-clause-stuck c b settings k a s kind R good below not_done e =
    let i = instance_there b k below in
    let code = code_there b R s good k i.0 i.1 not_done in
    stuck_is b R s good.state (words_of (Seeded settings.seed k a)) k i.0 code.0 kind i.1 code.1 e

pub returns-clause-next : goal.returns-clause-next
returns-clause-next c b settings k a s o ps R good goes = next_of b R s good (words_of (Seeded settings.seed k a)) k o ps goes

pub returns-clause-done : goal.returns-clause-done
returns-clause-done c b settings k s R good = done_is b R s good (words_of (Seeded settings.seed k 0)) k

pub returns-clause-within : goal.returns-clause-within
returns-clause-within c b settings k a o R own = within_reach b R (words_of (Seeded settings.seed k a)) k o own

pub returns-clause-reaches : goal.returns-clause-reaches
returns-clause-reaches c b k r h = reaches_resource b k r h

pub returns-clause-runs : goal.returns-clause-runs
returns-clause-runs c b settings R = runs b settings R

pub returns-clause-start : goal.returns-clause-start
returns-clause-start c b R = start_good b R
