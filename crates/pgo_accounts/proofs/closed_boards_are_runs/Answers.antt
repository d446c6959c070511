use Rattle.pgo_bound.specs.BoundOf.{bound_of}
use Rattle.pgo_meaning.specs.System.{system_of}
use Rattle.pgo_accesses.specs.Programs.{tree_of}
use Rattle.pgo_accounts.specs.ClosedTexts.{left_of}
use Rattle.pgo_accounts.proofs.Closed.{premises}
use Rattle.pgo_accounts.proofs.FinePlaces.{fine_by}
use Rattle.pgo_accounts.proofs.closed_boards_are_runs.Goals as goal

pub returns-clause-bound : goal.returns-clause-bound
returns-clause-bound c b settings keeps good runs = premises b settings (c.system_fits.ensures.fits b settings keeps) keeps.sound good runs

pub returns-clause-premises : goal.returns-clause-premises
returns-clause-premises c text s consts settings spells passes counted =
    let b = bound_of s consts in
    let keeps = c.texts_keep_states.ensures.kept text s consts spells passes counted in
    let accepted = c.texts_are_accepted.ensures.accepted text s consts spells passes.names passes.labels passes.binding in
    returns-clause-bound c b settings keeps (λ t h. (c.accepted_runs.ensures.good s consts t accepted keeps.sound).1 (record { state = h.state; labels = h.labels })) (c.workers_follow_machines.ensures.workers text s consts settings spells passes counted)

pub returns-clause-made : goal.returns-clause-made
returns-clause-made c text s consts settings entries notes ws bs told spells passes counted run =
    c.closed_runs_are_accounted.ensures.made (system_of (bound_of s consts)) (tree_of (bound_of s consts)) settings entries notes ws bs told (returns-clause-premises c text s consts settings spells passes counted) run

pub returns-clause-accounts : goal.returns-clause-accounts
returns-clause-accounts c text s consts settings entries notes ws bs told spells passes counted run k =
    c.closed_runs_are_accounted.ensures.accounts (system_of (bound_of s consts)) (tree_of (bound_of s consts)) settings entries notes ws bs told (returns-clause-premises c text s consts settings spells passes counted) run k

pub returns-clause-joint : goal.returns-clause-joint
returns-clause-joint c text s consts settings entries notes ws bs told spells passes counted run =
    c.closed_runs_are_accounted.ensures.joint (system_of (bound_of s consts)) (tree_of (bound_of s consts)) settings entries notes ws bs told (returns-clause-premises c text s consts settings spells passes counted) run

pub returns-clause-ended : goal.returns-clause-ended
returns-clause-ended c text s consts settings entries notes ws bs told spells passes counted run =
    c.closed_runs_are_accounted.ensures.ended (system_of (bound_of s consts)) (tree_of (bound_of s consts)) settings entries notes ws bs told (returns-clause-premises c text s consts settings spells passes counted) run

pub returns-clause-fine : goal.returns-clause-fine
returns-clause-fine c text s consts settings entries notes ws bs told spells passes counted run =
    let b = bound_of s consts in
    let keeps = c.texts_keep_states.ensures.kept text s consts spells passes counted in
    fine_by b keeps settings (left_of s consts settings entries notes ws)
    (c.closed_runs_are_accounted.ensures.undone (system_of b) (tree_of b) settings entries notes ws bs told (returns-clause-premises c text s consts settings spells passes counted) run)
