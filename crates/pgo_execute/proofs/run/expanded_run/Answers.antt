use Rattle.std.proofs.Common.{◌≡◌, ◌≤◌, ◌↔◌, ℕ, false, List, [], IsTrue, length, ap, sym, subst, ◌∙◌, refl}
use Rattle.pgo_accesses.specs.Programs.{tree_of}
use Rattle.pgo_agrees.proofs.Premises as premises
use Rattle.pgo_bound.specs.BoundOf.{bound_of}
use Rattle.pgo_bound.specs.Declares.{Declares}
use Rattle.pgo_bound.specs.Sound.{Sound}
use Rattle.pgo_core.specs.Cores.{CoreFits, EachEnds}
use Rattle.pgo_core.specs.Rounds.{AreRounds}
use Rattle.pgo_meaning.specs.System.{system_of}
use Rattle.pgo_translate.specs.ModuleOf.{constants_with, module_of, module_with}
use Rattle.pgo_model.specs.Accounts.{Contended}
use Rattle.pgo_model.specs.Core.{Core, rules_of, state_behind}
use Rattle.pgo_model.specs.BundleParts.{is_run_status}
use Rattle.pgo_model.specs.Module.{Module}
use Rattle.pgo_model.specs.ModuleText.{Text}
use Rattle.pgo_bundle.specs.RunLog.{run_log}
use Rattle.pgo_log_text.specs.ReadBundle.{IsReadBundle}
use Rattle.pgo_model.specs.Machine.{finished_of, last_state}
use Rattle.pgo_model.specs.ModuleView.{module_view}
use Rattle.pgo_pluscal.specs.PlusCalOf.{pluscal_of}
use Rattle.pgo_systems.proofs.States.{counted_values}
use Rattle.pgo_section.specs.Programs.{IsGood}
use Rattle.pgo_syntax.specs.RecordView.{settings_view}
use Rattle.pgo_syntax.specs.declared.bound.Bound.{Bound}
use Rattle.pgo_execute.specs.AnySettings.{RunsUnderAny}
use Rattle.pgo_execute.specs.Gives.{IsRunStatus, Leaves}
use Rattle.pgo_execute.specs.Ran.{AllDone, RanBy}
use Rattle.pgo_execute.specs.Schedules.{ends_all, schedule_view}
use Rattle.pgo_execute.proofs.QuietStatus.{good_state, itself, left_status, quiet_status}
use Rattle.pgo_execute.proofs.RanGiven.{bundle_of, left_by, on_one, one_of_five, status_is}
use Rattle.pgo_execute.proofs.ReadRuns.{log_read}
use Rattle.pgo_execute.proofs.run.expanded_run.Goals as goal

pub finished_under-requires-clause-macros : goal.finished_under-requires-clause-macros
finished_under-requires-clause-macros c =
    let a = c.requires.accepts in let n = c.requires.passes in
    c.premises_hold.ensures.macros c.args.bound.now.spec c.args.consts.now (c.texts_are_accepted.ensures.accepted a.text c.args.bound.now.spec c.args.consts.now a.spells n.names n.labels n.binding)

pub finished_under-requires-clause-names : goal.finished_under-requires-clause-names
finished_under-requires-clause-names c =
    let a = c.requires.accepts in let n = c.requires.passes in
    (premises.well c.args.bound.now.spec c.args.consts.now (c.texts_are_accepted.ensures.accepted a.text c.args.bound.now.spec c.args.consts.now a.spells n.names n.labels n.binding)).variables_differ

pub finished_under-requires-clause-sound : goal.finished_under-requires-clause-sound
finished_under-requires-clause-sound c =
    let a = c.requires.accepts in
    subst Sound (sym a.bound_is) (c.texts_keep_states.ensures.sound a.text c.args.bound.now.spec c.args.consts.now a.spells c.requires.passes (c.spellable_values_are_read_back.ensures.all_counted c.args.consts.now (c.read_values_are_canonical.ensures.spellable c.args.consts.now c.requires.constants)))

pub finished_under-requires-clause-fits : goal.finished_under-requires-clause-fits
finished_under-requires-clause-fits c =
    let a = c.requires.accepts in let n = c.requires.passes in
    let s = c.args.bound.now.spec in let consts = c.args.consts.now in
    let counted = c.spellable_values_are_read_back.ensures.all_counted consts (c.read_values_are_canonical.ensures.spellable consts c.requires.constants) in
    let settings = settings_view c.args.settings.now in
    let law = c.workers_follow_machines.ensures in
    let runs = law.workers a.text s consts settings a.spells n counted in
    subst (λ (b : Bound). CoreFits (system_of b) (tree_of b) settings) (sym a.bound_is) (record {
      runs = runs;
      differs = law.differs a.text s consts (tree_of (bound_of s consts)) settings runs a.spells n counted;
      good = λ turns. law.good a.text s consts settings turns a.spells n counted;
      holders = λ turns r h. law.holders a.text s consts settings turns r h a.spells n counted;
      few = law.few a.text s consts a.spells n counted;
    })

pub status_of_run-requires-clause-macros : goal.status_of_run-requires-clause-macros
status_of_run-requires-clause-macros c =
    let a = c.requires.accepts in let n = c.requires.passes in
    c.premises_hold.ensures.macros c.args.bound.now.spec c.args.consts.now (c.texts_are_accepted.ensures.accepted a.text c.args.bound.now.spec c.args.consts.now a.spells n.names n.labels n.binding)

pub status_of_run-requires-clause-sound : goal.status_of_run-requires-clause-sound
status_of_run-requires-clause-sound c =
    let a = c.requires.accepts in
    subst Sound (sym a.bound_is) (c.texts_keep_states.ensures.sound a.text c.args.bound.now.spec c.args.consts.now a.spells c.requires.passes (c.spellable_values_are_read_back.ensures.all_counted c.args.consts.now (c.read_values_are_canonical.ensures.spellable c.args.consts.now c.requires.constants)))

pub status_of_run-requires-clause-runs : goal.status_of_run-requires-clause-runs
status_of_run-requires-clause-runs c =
    let a = c.requires.accepts in
    let counted = c.spellable_values_are_read_back.ensures.all_counted c.args.consts.now (c.read_values_are_canonical.ensures.spellable c.args.consts.now c.requires.constants) in
    subst RunsUnderAny (sym a.bound_is) (record { under = λ settings. c.workers_follow_machines.ensures.workers a.text c.args.bound.now.spec c.args.consts.now settings a.spells c.requires.passes counted })

pub returns : goal.returns
returns c =
    let a = c.requires.accepts in let n = c.requires.passes in
    let b = c.args.bound.now in let s = c.args.bound.now.spec in let consts = c.args.consts.now in
    let counted = c.spellable_values_are_read_back.ensures.all_counted consts (c.read_values_are_canonical.ensures.spellable consts c.requires.constants) in
    let settings = settings_view c.args.settings.now in
    let left : Leaves (system_of b) settings (schedule_view c.args.schedule.now) c.in_ok-finished.finished = c.in_ok-finished.ensures in
    let finished = finished_of (Core (system_of b) settings left.turns) in
    let law = c.texts_run_as_written.ensures in
    let accepted = c.texts_are_accepted.ensures.accepted a.text s consts a.spells n.names n.labels n.binding in
    let sound = c.texts_keep_states.ensures.sound a.text s consts a.spells n counted in
    let own = finished_of (Core (system_of (bound_of s consts)) settings left.turns) in
    let last = state_behind (system_of (bound_of s consts)) settings own in let count = length own.entries in
    let good = subst (λ (b : Bound). IsGood (system_of b) (state_behind (system_of b) settings (finished_of (Core (system_of b) settings left.turns)))) (sym a.bound_is)
    (good_state (bound_of s consts) last (c.accepted_runs.ensures.good s consts last accepted sound) (law.good a.text s consts settings left.turns count a.spells n counted (itself count))) in
    let made : module_view c.in_ok-made.made ≡ module_of s = c.in_ok-made.ensures ∙ ap module_with c.requires.expanded in
    let status = status_is s consts b settings left.turns c.in_ok-status.status a.bound_is (c.in_ok-status.ensures settings finished left.is good) in
    let short = subst (λ (m : Module). length (Text m) ≤ 4294967295) made c.in_ok-text.ensures.short in
    let is_status = subst (λ (n : ℕ). IsTrue (is_run_status n)) (sym status) (c.runs_are_read_back.ensures.status (system_of (bound_of s consts)) settings own) in
    let bundle = bundle_of s consts b _ _ settings left.turns c.in_ok-status.status c.in_ok-text.text a.bound_is made c.in_ok-constants.ensures (c.in_ok-text.ensures.text settings finished left.is) in
    let read = c.runs_are_read_back.ensures.read a.text s consts settings left.turns c.in_ok-status.status a.spells n c.requires.constants short c.counts_are_short.ensures.steps c.counts_are_short.ensures.attempts c.counts_are_short.ensures.failures is_status in
    let l = run_log (system_of (bound_of s consts)) settings own c.in_ok-status.status in
    let is_read = subst (λ (w : List ℕ). IsReadBundle w (module_of s) (constants_with s consts) l) (sym bundle) read in
    let joint = law.joint a.text s consts settings left.turns a.spells n counted in
    let schedule = schedule_view c.args.schedule.now in
    let either : IsRunStatus c.in_ok-status.status = subst IsRunStatus (sym status) (one_of_five (system_of (bound_of s consts)) settings own) in
    let fine : (c.in_ok-status.status ≡ 0) ↔ AllDone s consts (last_state (rules_of (system_of (bound_of s consts)) settings) (Core (system_of (bound_of s consts)) settings left.turns)) =
    subst (λ (m : ℕ). (m ≡ 0) ↔ AllDone s consts (last_state (rules_of (system_of (bound_of s consts)) settings) (Core (system_of (bound_of s consts)) settings left.turns))) (sym status) (c.statuses_are_fine.ensures.fine a.text s consts settings left.turns a.spells n counted) in
    let ran : RanBy s consts false (ends_all schedule) settings own c.in_ok-status.status c.in_ok-text.text = record {
      sound = sound;
      declared = subst (λ (b : Bound). Declares b b.start) a.bound_is a.declared;
      bundle = bundle;
      tied = c.runs_are_tied.ensures (system_of (bound_of s consts)) settings false own c.in_ok-status.status (λ k. law.accounts a.text s consts settings left.turns k a.spells n counted);
      agrees = c.modules_agree.ensures a.text s consts (pluscal_of s) a.spells n (counted_values consts counted) refl;
      alone = c.modules_are_read_back.ensures a.text s consts a.spells n short;
      run = law.run a.text s consts settings left.turns a.spells n counted;
      next = law.next a.text s consts settings left.turns a.spells n counted;
      is_read = is_read;
      only = c.one_bundle.ensures c.in_ok-text.text (module_of s) (constants_with s consts) l is_read;
      read_run = log_read (module_of s) (constants_with s consts) (system_of (bound_of s consts)) l own.entries (c.run_logs_are_checked.ensures (system_of (bound_of s consts)) settings own c.in_ok-status.status) (law.run a.text s consts settings left.turns a.spells n counted);
      accounts = λ k. law.accounts a.text s consts settings left.turns k a.spells n counted;
      notes = λ k i p kind e. c.notes_tell_of_leaves.ensures.record (bound_of s consts) settings false own k i p kind (law.accounts a.text s consts settings left.turns k a.spells n counted) e;
      joint = record {
        once = joint.once;
        full = joint.full;
        room = joint.room;
        contended = λ e. subst (λ (b : Bound). Contended (rules_of (system_of b) settings) (finished_of (Core (system_of b) settings left.turns))) a.bound_is (left.contended e);
      };
      downs = c.pre_commits_are_of_bound_resources.ensures.machine (bound_of s consts) settings left.turns (c.texts_keep_states.ensures.kept a.text s consts a.spells n counted);
      ended = λ e. subst (λ (b : Bound). EachEnds (system_of b) settings (finished_of (Core (system_of b) settings left.turns))) a.bound_is (left.ended e);
      status_is = status;
      quiet = quiet_status (bound_of s consts) settings own c.in_ok-status.status status;
      left_over = left_status c.in_ok-status.status _ either fine;
      fine = fine;
    } in
    record {
      left = own;
      by = left_by s consts schedule settings left.turns left.turns_of (λ e. subst (λ (b : Bound). AreRounds (system_of b) settings [] left.turns) a.bound_is (left.rounds e));
      ran = subst (λ t. RanBy s consts t (ends_all schedule) settings own c.in_ok-status.status c.in_ok-text.text) (sym (on_one schedule left.turns left.turns_of)) ran;
      either = either;
    }
