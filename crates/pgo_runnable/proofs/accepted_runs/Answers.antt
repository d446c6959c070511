use Rattle.pgo_model.specs.Core.{Reaches}
use Rattle.pgo_bound.specs.BoundOf.{bound_of}
use Rattle.pgo_meaning.specs.System.{system_of}
use Rattle.pgo_accesses.specs.Programs.{program_of, world_at}
use Rattle.pgo_accesses.specs.Runnable.{IsRunState}
use Rattle.pgo_section.specs.Programs.{IsGood}
use Rattle.pgo_agrees.proofs.Premises.{refs}
use Rattle.pgo_runnable.proofs.Premises.{is_sound, runnable}
use Rattle.pgo_runnable.proofs.Workers.{runs_over, run_state, good_state}
use Rattle.pgo_runnable.proofs.accepted_runs.Goals as goal

pub returns-clause-sound : goal.returns-clause-sound
returns-clause-sound c s consts h v = is_sound s consts h v

pub returns-clause-runnable : goal.returns-clause-runnable
returns-clause-runnable c s consts h v = runnable s consts h v (c.system_states.ensures.bound s consts (refs s consts h))

pub returns-clause-runs : goal.returns-clause-runs
returns-clause-runs c s consts settings h v =
    c.sections_are_accesses.ensures.runs (bound_of s consts) settings (runnable s consts h v (c.system_states.ensures.bound s consts (refs s consts h)))

pub returns-clause-workers : goal.returns-clause-workers
returns-clause-workers c s consts settings h v =
    let b = bound_of s consts in
    let R = runnable s consts h v (c.system_states.ensures.bound s consts (refs s consts h)) in
    runs_over (world_at b) (program_of b settings) (Reaches (system_of b)) (IsRunState b) (IsGood (system_of b)) (λ t good. run_state b R t good) (c.sections_are_accesses.ensures.runs b settings R)

pub returns-clause-good : goal.returns-clause-good
returns-clause-good c s consts t h v =
    let b = bound_of s consts in
    let R = runnable s consts h v (c.system_states.ensures.bound s consts (refs s consts h)) in
    (run_state b R t, good_state b R t)

pub returns-clause-start : goal.returns-clause-start
returns-clause-start c s consts h v =
    let b = bound_of s consts in
    let R = runnable s consts h v (c.system_states.ensures.bound s consts (refs s consts h)) in
    good_state b R b.start (c.sections_are_accesses.ensures.start b R)
