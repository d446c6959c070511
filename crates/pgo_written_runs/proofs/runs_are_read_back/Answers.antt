use Rattle.std.proofs.Common.{false}
use Rattle.pgo_bound.specs.BoundOf.{bound_of}
use Rattle.pgo_bundle.specs.RunLog.{run_log}
use Rattle.pgo_meaning.specs.System.{system_of}
use Rattle.pgo_model.specs.Core.{Core}
use Rattle.pgo_model.specs.Machine.{finished_of}
use Rattle.pgo_translate.specs.ModuleOf.{constants_with, module_of}
use Rattle.pgo_log_text.proofs.WrittenRuns.{written_run_is_read}
use Rattle.pgo_written_runs.proofs.Runs.{one_status, run_written}
use Rattle.pgo_written_runs.proofs.TextCounts.{archetypes_short}
use Rattle.pgo_written_runs.proofs.runs_are_read_back.Goals as goal

pub returns-clause-made : goal.returns-clause-made
returns-clause-made c text s consts settings run f status spells passes given short steps attempts downs is_status made accounts joint reached =
    let b = bound_of s consts in
    let accepted = c.texts_are_accepted.ensures.accepted text s consts spells passes.names passes.labels passes.binding in
    let spelled = c.read_values_are_canonical.ensures.spellable consts given in
    let counted = c.spellable_values_are_read_back.ensures.all_counted consts spelled in
    let keeps = c.texts_keep_states.ensures.kept text s consts spells passes counted in
    run_written s consts accepted (c.modules_are_written.ensures text s consts spells passes) c.spellable_values_are_read_back.ensures.texts keeps short (archetypes_short text s spells) (c.run_values_are_spellable.ensures.start text s consts spells passes spelled) settings run f steps attempts downs
    made (c.made_entries_are_runs.ensures.good b settings f keeps made) (λ n le. c.run_values_are_spellable.ensures.made text s consts settings f n spells passes spelled made le) accounts joint reached
    (λ p e at_p. (c.prints_are_spellable.ensures.values text s consts settings f p e spells passes spelled made at_p, c.prints_are_spellable.ensures.few text s consts settings f p e spells passes spelled made at_p))
    status given (c.modules_are_read_back.ensures text s consts spells passes short).spells is_status
    (c.tied_logs.ensures.untied (run_log (system_of b) settings f status) (c.runs_are_tied.ensures (system_of b) settings run f status accounts))

pub returns-clause-read_made : goal.returns-clause-read_made
returns-clause-read_made c text s consts settings run f status spells passes given short steps attempts downs is_status made accounts joint reached =
    written_run_is_read (module_of s) (constants_with s consts) (system_of (bound_of s consts)) settings f status (returns-clause-made c text s consts settings run f status spells passes given short steps attempts downs is_status made accounts joint reached)

pub returns-clause-run : goal.returns-clause-run
returns-clause-run c text s consts settings turns status spells passes given short steps attempts downs is_status =
    let b = bound_of s consts in
    let counted = c.spellable_values_are_read_back.ensures.all_counted consts (c.read_values_are_canonical.ensures.spellable consts given) in
    let keeps = c.texts_keep_states.ensures.kept text s consts spells passes counted in
    returns-clause-made c text s consts settings false (finished_of (Core (system_of b) settings turns)) status spells passes given short steps attempts downs is_status (c.bound_accounts.ensures.entries b settings turns keeps) (c.bound_accounts.ensures.accounts b settings turns keeps) (c.bound_accounts.ensures.joint b settings turns keeps) (c.pre_commits_are_of_bound_resources.ensures.machine b settings turns keeps)

pub returns-clause-read : goal.returns-clause-read
returns-clause-read c text s consts settings turns status spells passes given short steps attempts downs is_status =
    written_run_is_read (module_of s) (constants_with s consts) (system_of (bound_of s consts)) settings (finished_of (Core (system_of (bound_of s consts)) settings turns)) status (returns-clause-run c text s consts settings turns status spells passes given short steps attempts downs is_status)

pub returns-clause-status : goal.returns-clause-status
returns-clause-status c y settings f = one_status y settings f
