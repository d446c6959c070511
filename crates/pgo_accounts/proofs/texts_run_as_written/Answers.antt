use Rattle.std.proofs.Common.{refl}
use Rattle.pgo_bound.specs.BoundOf.{bound_of}
use Rattle.pgo_systems.proofs.States.{counted_values}
use Rattle.pgo_pluscal.specs.PlusCalOf.{pluscal_of}
use Rattle.pgo_translate.specs.ModuleOf.{module_of}
use Rattle.pgo_accounts.proofs.texts_run_as_written.Goals as goal

pub returns-clause-run : goal.returns-clause-run
returns-clause-run c text s consts settings turns spells passes counted =
    let accepted = c.texts_are_accepted.ensures.accepted text s consts spells passes.names passes.labels passes.binding in
    let agrees = c.modules_agree.ensures text s consts (pluscal_of s) spells passes (counted_values consts counted) refl in
    c.journals_are_runs.ensures.run s consts (module_of s) settings turns accepted (c.texts_keep_states.ensures.kept text s consts spells passes counted) agrees

pub returns-clause-next : goal.returns-clause-next
returns-clause-next c text s consts settings turns spells passes counted =
    let accepted = c.texts_are_accepted.ensures.accepted text s consts spells passes.names passes.labels passes.binding in
    let agrees = c.modules_agree.ensures text s consts (pluscal_of s) spells passes (counted_values consts counted) refl in
    c.journals_are_runs.ensures.next s consts (module_of s) settings turns accepted (c.texts_keep_states.ensures.kept text s consts spells passes counted) agrees

pub returns-clause-states : goal.returns-clause-states
returns-clause-states c text s consts settings turns n spells passes counted le =
    c.bound_accounts.ensures.states (bound_of s consts) settings turns (c.texts_keep_states.ensures.kept text s consts spells passes counted) n le

pub returns-clause-good : goal.returns-clause-good
returns-clause-good c text s consts settings turns n spells passes counted le =
    c.bound_accounts.ensures.good (bound_of s consts) settings turns (c.texts_keep_states.ensures.kept text s consts spells passes counted) n le

pub returns-clause-accounts : goal.returns-clause-accounts
returns-clause-accounts c text s consts settings turns k spells passes counted =
    c.bound_accounts.ensures.accounts (bound_of s consts) settings turns (c.texts_keep_states.ensures.kept text s consts spells passes counted) k

pub returns-clause-joint : goal.returns-clause-joint
returns-clause-joint c text s consts settings turns spells passes counted =
    c.bound_accounts.ensures.joint (bound_of s consts) settings turns (c.texts_keep_states.ensures.kept text s consts spells passes counted)
