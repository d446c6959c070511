use Rattle.pgo_model.specs.Core.{Core}
use Rattle.pgo_model.specs.Machine.{finished_of}
use Rattle.pgo_meaning.specs.System.{system_of}
use Rattle.pgo_bound.specs.BoundOf.{bound_of}
use Rattle.pgo_accounts.proofs.Entries.{is_run, next_holds}
use Rattle.pgo_accounts.proofs.journals_are_runs.Goals as goal

pub returns-clause-run : goal.returns-clause-run
returns-clause-run c s consts m settings turns accepted keeps agrees =
    let b = bound_of s consts in
    is_run s consts accepted keeps m agrees settings (finished_of (Core (system_of b) settings turns)) (c.bound_accounts.ensures.entries b settings turns keeps) (c.bound_accounts.ensures.states b settings turns keeps) (c.bound_accounts.ensures.good b settings turns keeps)

pub returns-clause-next : goal.returns-clause-next
returns-clause-next c s consts m settings turns accepted keeps agrees =
    let b = bound_of s consts in
    next_holds s consts accepted keeps m agrees settings (finished_of (Core (system_of b) settings turns)) (c.bound_accounts.ensures.entries b settings turns keeps) (c.bound_accounts.ensures.states b settings turns keeps) (c.bound_accounts.ensures.good b settings turns keeps)
