use Rattle.pgo_bound.specs.BoundOf.{bound_of}
use Rattle.pgo_accounts.proofs.Following.{differs, few_resources, holder_there, last_good}
use Rattle.pgo_accounts.proofs.workers_follow_machines.Goals as goal

pub returns-clause-workers : goal.returns-clause-workers
returns-clause-workers c text s consts settings spells passes counted =
    let accepted = c.texts_are_accepted.ensures.accepted text s consts spells passes.names passes.labels passes.binding in
    c.accepted_runs.ensures.workers s consts settings accepted (c.texts_keep_states.ensures.sound text s consts spells passes counted)

pub returns-clause-differs : goal.returns-clause-differs
returns-clause-differs c text s consts tree settings runs spells passes counted =
    let keeps = c.texts_keep_states.ensures.kept text s consts spells passes counted in
    differs (bound_of s consts) keeps (λ n r e. c.system_fits.ensures.numbers (bound_of s consts) n r keeps e) tree settings runs

pub returns-clause-start : goal.returns-clause-start
returns-clause-start c text s consts spells passes counted =
    let accepted = c.texts_are_accepted.ensures.accepted text s consts spells passes.names passes.labels passes.binding in
    c.accepted_runs.ensures.start s consts accepted (c.texts_keep_states.ensures.sound text s consts spells passes counted)

pub returns-clause-good : goal.returns-clause-good
returns-clause-good c text s consts settings turns spells passes counted =
    let b = bound_of s consts in
    let accepted = c.texts_are_accepted.ensures.accepted text s consts spells passes.names passes.labels passes.binding in
    let fits = c.system_fits.ensures.fits b settings (c.texts_keep_states.ensures.kept text s consts spells passes counted) in
    (c.accepted_runs.ensures.good s consts _ accepted (c.texts_keep_states.ensures.sound text s consts spells passes counted)).1 (last_good b settings fits turns)

pub returns-clause-holders : goal.returns-clause-holders
returns-clause-holders c text s consts settings turns r h spells passes counted e =
    let b = bound_of s consts in
    holder_there b settings (c.system_fits.ensures.fits b settings (c.texts_keep_states.ensures.kept text s consts spells passes counted)) turns r h e

pub returns-clause-few : goal.returns-clause-few
returns-clause-few c text s consts spells passes counted = few_resources (bound_of s consts) (c.texts_keep_states.ensures.sound text s consts spells passes counted)
