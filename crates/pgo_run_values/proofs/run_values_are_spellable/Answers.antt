use Rattle.std.proofs.Common.{ℕ, List}
use Rattle.pgo_model.specs.Core.{Core}
use Rattle.pgo_model.specs.Machine.{finished_of}
use Rattle.pgo_meaning.specs.System.{system_of}
use Rattle.pgo_syntax.specs.declared.spec.Spec.{Spec}
use Rattle.pgo_bound.specs.BoundOf.{bound_of}
use Rattle.pgo_mpcal_read.specs.Texts.{SpellsSpec}
use Rattle.pgo_accounts.proofs.TextGives.{text_within}
use Rattle.pgo_run_values.specs.Spellable.{AllLiteralsWritten, spellable}
use Rattle.pgo_run_values.proofs.Bytes.{name_bytes, quoted_bytes}
use Rattle.pgo_run_values.proofs.Along.{all_spellable, ids_spellable, start_all}
use Rattle.pgo_run_values.proofs.Writable.{all_counted}
use Rattle.pgo_run_values.proofs.run_values_are_spellable.Goals as goal

text_gives : (text : List ℕ) (s : Spec) → SpellsSpec text s → AllLiteralsWritten s
text_gives text s spells = (text_within spellable name_bytes quoted_bytes text s spells).literals

pub returns-clause-literals : goal.returns-clause-literals
returns-clause-literals c text s spells = text_gives text s spells

pub returns-clause-ids : goal.returns-clause-ids
returns-clause-ids c text s consts k i spells passes spelled at_k =
    ids_spellable s consts (c.texts_are_accepted.ensures.of_text text s spells) (text_gives text s spells) spelled (c.texts_keep_states.ensures.kept text s consts spells passes (all_counted consts spelled)) k i at_k

pub returns-clause-start : goal.returns-clause-start
returns-clause-start c text s consts spells passes spelled =
    start_all s consts (c.texts_are_accepted.ensures.of_text text s spells) (text_gives text s spells) spelled (c.texts_keep_states.ensures.kept text s consts spells passes (all_counted consts spelled))

pub returns-clause-states : goal.returns-clause-states
returns-clause-states c text s consts settings turns n spells passes spelled le =
    let b = bound_of s consts in
    let keeps = c.texts_keep_states.ensures.kept text s consts spells passes (all_counted consts spelled) in
    all_spellable s consts (c.texts_are_accepted.ensures.of_text text s spells) (text_gives text s spells) spelled keeps settings (finished_of (Core (system_of b) settings turns)) (c.bound_accounts.ensures.entries b settings turns keeps) (c.bound_accounts.ensures.good b settings turns keeps) n le

pub returns-clause-made : goal.returns-clause-made
returns-clause-made c text s consts settings f n spells passes spelled made le =
    let b = bound_of s consts in
    let keeps = c.texts_keep_states.ensures.kept text s consts spells passes (all_counted consts spelled) in
    all_spellable s consts (c.texts_are_accepted.ensures.of_text text s spells) (text_gives text s spells) spelled keeps settings f made (c.made_entries_are_runs.ensures.good b settings f keeps made) n le
