use Rattle.pgo_bound.specs.BoundOf.{bound_of}
use Rattle.pgo_systems.proofs.States.{counted_values}
use Rattle.pgo_accounts.proofs.Premises.{fits, gotos_known}
use Rattle.pgo_accounts.proofs.TextGives.{text_gives}
use Rattle.pgo_accounts.proofs.ValueTexts.{value_counted}
use Rattle.pgo_accounts.proofs.texts_keep_states.Goals as goal

pub returns-clause-literals : goal.returns-clause-literals
returns-clause-literals c text s spells = (text_gives text s spells).literals

pub returns-clause-macros : goal.returns-clause-macros
returns-clause-macros c text s spells = (text_gives text s spells).macros

pub returns-clause-gotos : goal.returns-clause-gotos
returns-clause-gotos c text s consts k i spells passes at_k =
    let g = text_gives text s spells in
    gotos_known s consts (c.texts_are_accepted.ensures.accepted text s consts spells passes.names passes.labels passes.binding) g.literals g.macros k i at_k

pub returns-clause-counted : goal.returns-clause-counted
returns-clause-counted c text v h = value_counted text v h

pub returns-clause-sound : goal.returns-clause-sound
returns-clause-sound c text s consts spells passes counted =
    let g = text_gives text s spells in
    let accepted = c.texts_are_accepted.ensures.accepted text s consts spells passes.names passes.labels passes.binding in
    let starts = counted_values (bound_of s consts).start (c.values_are_given.ensures.start s consts counted g.literals.start) in
    (fits s consts accepted g.literals g.macros counted starts).sound

pub returns-clause-kept : goal.returns-clause-kept
returns-clause-kept c text s consts spells passes counted =
    let g = text_gives text s spells in
    let accepted = c.texts_are_accepted.ensures.accepted text s consts spells passes.names passes.labels passes.binding in
    let starts = counted_values (bound_of s consts).start (c.values_are_given.ensures.start s consts counted g.literals.start) in
    c.system_fits.ensures.kept s consts (fits s consts accepted g.literals g.macros counted starts)
