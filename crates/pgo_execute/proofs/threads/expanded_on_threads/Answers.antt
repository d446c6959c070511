use Rattle.std.proofs.Common.{◌≡◌, ◌≤◌, ℕ, true, List, length, ap, sym, subst, ◌∙◌}
use Rattle.pgo_accesses.specs.Programs.{tree_of}
use Rattle.pgo_agrees.proofs.Premises as premises
use Rattle.pgo_bound.specs.BoundOf.{bound_of}
use Rattle.pgo_bound.specs.Declares.{Declares}
use Rattle.pgo_bound.specs.Sound.{Sound}
use Rattle.pgo_bundle.specs.Lines.{BundleText}
use Rattle.pgo_bundle.specs.RunLog.{run_log}
use Rattle.pgo_closed.specs.SystemRuns.{IsClosedRun, SystemPremises, left}
use Rattle.pgo_meaning.specs.System.{system_of}
use Rattle.pgo_model.specs.Core.{state_behind, status_of}
use Rattle.pgo_model.specs.Module.{Module}
use Rattle.pgo_model.specs.ModuleText.{Text}
use Rattle.pgo_model.specs.ModuleView.{module_view}
use Rattle.pgo_run_all.specs.LeftBehind.{LeavesClosed}
use Rattle.pgo_section.specs.Programs.{IsGood}
use Rattle.pgo_syntax.specs.RecordView.{settings_view}
use Rattle.pgo_syntax.specs.declared.bound.Bound.{Bound}
use Rattle.pgo_threads.specs.Drives.{Differing}
use Rattle.pgo_translate.specs.ModuleOf.{constants_with, module_of, module_with}
use Rattle.pgo_execute.specs.AnySettings.{RunsUnderAny}
use Rattle.pgo_execute.specs.Gives.{IsRunStatus}
use Rattle.pgo_execute.specs.Ran.{RanBy}
use Rattle.pgo_execute.proofs.LeftOnThreads.{finished_closed}
use Rattle.pgo_execute.proofs.QuietStatus.{good_state, itself}
use Rattle.pgo_execute.proofs.RanGiven.{one_of_five}
use Rattle.pgo_execute.proofs.threads.expanded_on_threads.Goals as goal

pub finished_on_threads-requires-clause-macros : goal.finished_on_threads-requires-clause-macros
finished_on_threads-requires-clause-macros g c κs within =
    let a = c.requires.accepts in let n = c.requires.passes in
    c.premises_hold.ensures.macros c.args.bound.now.spec c.args.consts.now (c.texts_are_accepted.ensures.accepted a.text c.args.bound.now.spec c.args.consts.now a.spells n.names n.labels n.binding)

pub finished_on_threads-requires-clause-names : goal.finished_on_threads-requires-clause-names
finished_on_threads-requires-clause-names g c κs within =
    let a = c.requires.accepts in let n = c.requires.passes in
    (premises.well c.args.bound.now.spec c.args.consts.now (c.texts_are_accepted.ensures.accepted a.text c.args.bound.now.spec c.args.consts.now a.spells n.names n.labels n.binding)).variables_differ

pub finished_on_threads-requires-clause-sound : goal.finished_on_threads-requires-clause-sound
finished_on_threads-requires-clause-sound g c κs within =
    let a = c.requires.accepts in
    subst Sound (sym a.bound_is) (c.texts_keep_states.ensures.sound a.text c.args.bound.now.spec c.args.consts.now a.spells c.requires.passes (c.spellable_values_are_read_back.ensures.all_counted c.args.consts.now (c.read_values_are_canonical.ensures.spellable c.args.consts.now c.requires.constants)))

pub finished_on_threads-requires-clause-asked : goal.finished_on_threads-requires-clause-asked
finished_on_threads-requires-clause-asked g c κs within =
    let a = c.requires.accepts in let n = c.requires.passes in
    let s = c.args.bound.now.spec in let consts = c.args.consts.now in
    let counted = c.spellable_values_are_read_back.ensures.all_counted consts (c.read_values_are_canonical.ensures.spellable consts c.requires.constants) in
    let settings = settings_view c.args.settings.now in
    let law = c.workers_follow_machines.ensures in
    let runs = law.workers a.text s consts settings a.spells n counted in
    subst (λ (b : Bound). Differing (system_of b) (tree_of b) settings) (sym a.bound_is) (record { runs = runs; differs = law.differs a.text s consts (tree_of (bound_of s consts)) settings runs a.spells n counted })

pub finished_on_threads-requires-clause-premises : goal.finished_on_threads-requires-clause-premises
finished_on_threads-requires-clause-premises g c κs within =
    let a = c.requires.accepts in let n = c.requires.passes in
    let s = c.args.bound.now.spec in let consts = c.args.consts.now in
    let counted = c.spellable_values_are_read_back.ensures.all_counted consts (c.read_values_are_canonical.ensures.spellable consts c.requires.constants) in
    let settings = settings_view c.args.settings.now in
    subst (λ (b : Bound). SystemPremises (system_of b) (tree_of b) settings) (sym a.bound_is) (c.closed_boards_are_runs.ensures.premises a.text s consts settings a.spells n counted)

pub status_of_run-requires-clause-macros : goal.status_of_run-requires-clause-macros
status_of_run-requires-clause-macros g c =
    let a = c.requires.accepts in let n = c.requires.passes in
    c.premises_hold.ensures.macros c.args.bound.now.spec c.args.consts.now (c.texts_are_accepted.ensures.accepted a.text c.args.bound.now.spec c.args.consts.now a.spells n.names n.labels n.binding)

pub status_of_run-requires-clause-sound : goal.status_of_run-requires-clause-sound
status_of_run-requires-clause-sound g c =
    let a = c.requires.accepts in
    subst Sound (sym a.bound_is) (c.texts_keep_states.ensures.sound a.text c.args.bound.now.spec c.args.consts.now a.spells c.requires.passes (c.spellable_values_are_read_back.ensures.all_counted c.args.consts.now (c.read_values_are_canonical.ensures.spellable c.args.consts.now c.requires.constants)))

pub status_of_run-requires-clause-runs : goal.status_of_run-requires-clause-runs
status_of_run-requires-clause-runs g c =
    let a = c.requires.accepts in
    let counted = c.spellable_values_are_read_back.ensures.all_counted c.args.consts.now (c.read_values_are_canonical.ensures.spellable c.args.consts.now c.requires.constants) in
    subst RunsUnderAny (sym a.bound_is) (record { under = λ settings. c.workers_follow_machines.ensures.workers a.text c.args.bound.now.spec c.args.consts.now settings a.spells c.requires.passes counted })

pub returns : goal.returns
returns g c =
    let a = c.requires.accepts in let n = c.requires.passes in
    let b = c.args.bound.now in let s = c.args.bound.now.spec in let consts = c.args.consts.now in
    let settings = settings_view c.args.settings.now in
    let counted = c.spellable_values_are_read_back.ensures.all_counted consts (c.read_values_are_canonical.ensures.spellable consts c.requires.constants) in
    let sound = c.texts_keep_states.ensures.sound a.text s consts a.spells n counted in
    let l : LeavesClosed (system_of b) (tree_of b) settings c.in_ok-finished.finished = c.in_ok-finished.ensures in
    let es = c.in_ok-finished.finished.journal.entries in let ns = c.in_ok-finished.finished.journal.notes in
    let f = left (system_of b) (tree_of b) settings es ns l.workers in
    let is = finished_closed (system_of b) (tree_of b) settings c.in_ok-finished.finished l in
    let made : module_view c.in_ok-made.made ≡ module_of s = c.in_ok-made.ensures ∙ ap module_with c.requires.expanded in
    let short = subst (λ (m : Module). length (Text m) ≤ 4294967295) made c.in_ok-text.ensures.short in
    let own = left (system_of (bound_of s consts)) (tree_of (bound_of s consts)) settings es ns l.workers in
    let accepted = c.texts_are_accepted.ensures.accepted a.text s consts a.spells n.names n.labels n.binding in
    let closed = subst (λ (b : Bound). IsClosedRun (system_of b) (tree_of b) settings es ns l.workers l.boards l.told) a.bound_is l.closed in
    let last = state_behind (system_of (bound_of s consts)) settings own in
    let entries_made = c.closed_boards_are_runs.ensures.made a.text s consts settings es ns l.workers l.boards l.told a.spells n counted closed in
    let good = subst (λ (b : Bound). IsGood (system_of b) (state_behind (system_of b) settings (left (system_of b) (tree_of b) settings es ns l.workers))) (sym a.bound_is)
    (good_state (bound_of s consts) last (c.accepted_runs.ensures.good s consts last accepted sound) (c.made_entries_are_runs.ensures.good (bound_of s consts) settings own (c.texts_keep_states.ensures.kept a.text s consts a.spells n counted) entries_made (length es) (itself (length es)))) in
    let status : c.in_ok-status.status ≡ status_of (system_of (bound_of s consts)) settings own =
    c.in_ok-status.ensures settings f is good ∙ ap (λ (b : Bound). status_of (system_of b) settings (left (system_of b) (tree_of b) settings es ns l.workers)) a.bound_is in
    let written : c.in_ok-text.text ≡ BundleText (module_of s) (constants_with s consts) (run_log (system_of (bound_of s consts)) settings own (status_of (system_of (bound_of s consts)) settings own)) =
    c.in_ok-text.ensures.text settings f is
    ∙ (λ i. BundleText (made i) (c.in_ok-constants.ensures i) (run_log (system_of (a.bound_is i)) settings (left (system_of (a.bound_is i)) (tree_of (a.bound_is i)) settings es ns l.workers) (status i))) in
    let ran = c.closed_boards_ran.ensures a.text s consts settings es ns l.workers l.boards l.told a.spells n c.requires.constants short c.counts_are_short.ensures.steps c.counts_are_short.ensures.attempts c.counts_are_short.ensures.failures
    (subst (λ (b : Bound). Declares b b.start) a.bound_is a.declared) closed in
    record {
      left = own;
      by = tt;
      ran = subst (λ (w : List ℕ). RanBy s consts true true settings own c.in_ok-status.status w) (sym written)
          (subst (λ (m : ℕ). RanBy s consts true true settings own m (BundleText (module_of s) (constants_with s consts) (run_log (system_of (bound_of s consts)) settings own (status_of (system_of (bound_of s consts)) settings own)))) (sym status) ran);
      either = subst IsRunStatus (sym status) (one_of_five (system_of (bound_of s consts)) settings own);
    }
