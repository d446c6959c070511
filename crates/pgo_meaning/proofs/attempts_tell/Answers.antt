use Rattle.std.proofs.Common.{ap, ◌∙◌}
use Rattle.pgo_model.specs.Outcome.{Section}
use Rattle.pgo_tries.specs.Attempts.{is_blocked}
use Rattle.pgo_meaning.specs.Attempt.{access_of_try, end_of_try, leaf_section, try_first}
use Rattle.pgo_meaning.specs.Enabled.{blocked_try, blocked_note, no_step, found_try, many_try}
use Rattle.pgo_meaning.specs.LeafWords.{leaf_words}
use Rattle.pgo_meaning.specs.NoteTells.{note_tells}
use Rattle.pgo_meaning.specs.Quiet.{quiet_tells}
use Rattle.pgo_meaning.proofs.LabelSections.{nowhere}
use Rattle.pgo_meaning.proofs.attempts_tell.Goals as goal

pub returns-clause-leaf : goal.returns-clause-leaf
returns-clause-leaf c b k s w = leaf_section b k s w

pub returns-clause-ends : goal.returns-clause-ends
returns-clause-ends c b k s w o few e = end_of_try b k s w o few e

pub returns-clause-accesses : goal.returns-clause-accesses
returns-clause-accesses c b k s w x i = access_of_try b k s w x i

pub returns-clause-first : goal.returns-clause-first
returns-clause-first c b k s w free = try_first b k s w free

pub returns-clause-nowhere : goal.returns-clause-nowhere
returns-clause-nowhere c b k i s w u n at_k h =
    let none = nowhere b i u n k s w at_k h in
    try_first b k s w (ap (λ (x : Section _ _). is_blocked x.end) none) ∙ none

pub returns-clause-leaves : goal.returns-clause-leaves
returns-clause-leaves c b k s o = leaf_words b k s o

pub returns-clause-blocked : goal.returns-clause-blocked
returns-clause-blocked c b k s w = blocked_try b k s w

pub returns-clause-no_step : goal.returns-clause-no_step
returns-clause-no_step c b k s w h = (λ v. blocked_note b k s w v h, λ t a. no_step b k s w h t a)

pub returns-clause-found : goal.returns-clause-found
returns-clause-found c b k s w o h free few = found_try b k s w o h free few

pub returns-clause-many : goal.returns-clause-many
returns-clause-many c b k s w h = many_try b k s w h

pub returns-clause-notes : goal.returns-clause-notes
returns-clause-notes c b k s w kind e = note_tells b k s w kind e

pub returns-clause-quiet : goal.returns-clause-quiet
returns-clause-quiet c b s w = quiet_tells b s w
