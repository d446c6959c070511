use Rattle.pgo_bound.specs.BoundOf.{bound_of}
use Rattle.pgo_accounts.proofs.Entries.{is_run, next_holds}
use Rattle.pgo_accounts.proofs.MadeRuns.{good, states}
use Rattle.pgo_accounts.proofs.made_entries_are_runs.Goals as goal

pub returns-clause-good : goal.returns-clause-good
returns-clause-good c b settings f keeps made n le = good b keeps c.values_are_given.ensures.states settings (c.system_fits.ensures.fits b settings keeps) f made n le

pub returns-clause-states : goal.returns-clause-states
returns-clause-states c b settings f keeps made n le = states b keeps c.values_are_given.ensures.states settings (c.system_fits.ensures.fits b settings keeps) f made n le

pub returns-clause-run : goal.returns-clause-run
returns-clause-run c s consts m settings f accepted keeps agrees made =
    let b = bound_of s consts in
    is_run s consts accepted keeps m agrees settings f made (returns-clause-states c b settings f keeps made) (returns-clause-good c b settings f keeps made)

pub returns-clause-next : goal.returns-clause-next
returns-clause-next c s consts m settings f accepted keeps agrees made =
    let b = bound_of s consts in
    next_holds s consts accepted keeps m agrees settings f made (returns-clause-states c b settings f keeps made) (returns-clause-good c b settings f keeps made)
