use Rattle.std.proofs.Common.{ℕ, refl, true}
use Rattle.pgo_bound.specs.BoundOf.{bound_of}
use Rattle.pgo_meaning.specs.System.{system_of}
use Rattle.pgo_model.specs.Accounts.{Accounts}
use Rattle.pgo_model.specs.Core.{Reaches, rules_of, status_of}
use Rattle.pgo_pluscal.specs.PlusCalOf.{pluscal_of}
use Rattle.pgo_systems.proofs.States.{counted_values}
use Rattle.pgo_translate.specs.ModuleOf.{constants_with, module_of}
use Rattle.pgo_bundle.specs.Lines.{BundleText}
use Rattle.pgo_bundle.specs.RunLog.{run_log}
use Rattle.pgo_accounts.specs.ClosedTexts.{left_of}
use Rattle.pgo_execute.proofs.QuietStatus.{left_status, quiet_status}
use Rattle.pgo_execute.proofs.RanGiven.{one_of_five}
use Rattle.pgo_execute.proofs.ReadRuns.{log_read}
use Rattle.pgo_execute.proofs.closed.closed_boards_ran.Goals as goal

pub returns : goal.returns
returns c text s consts settings entries notes ws bs told spells passes given short steps attempts downs declared run =
    let b = bound_of s consts in let y = system_of b in
    let f = left_of s consts settings entries notes ws in
    let status = status_of y settings f in
    let l = run_log y settings f status in
    let counted = c.spellable_values_are_read_back.ensures.all_counted consts (c.read_values_are_canonical.ensures.spellable consts given) in
    let accepted = c.texts_are_accepted.ensures.accepted text s consts spells passes.names passes.labels passes.binding in
    let keeps = c.texts_keep_states.ensures.kept text s consts spells passes counted in
    let agrees = c.modules_agree.ensures text s consts (pluscal_of s) spells passes (counted_values consts counted) refl in
    let law = c.closed_boards_are_runs.ensures in
    let made = law.made text s consts settings entries notes ws bs told spells passes counted run in
    let accounts : (k : ℕ) → Accounts (rules_of y settings) (Reaches y) true f k = λ k. law.accounts text s consts settings entries notes ws bs told spells passes counted run k in
    let joint = law.joint text s consts settings entries notes ws bs told spells passes counted run in
    let fine = law.fine text s consts settings entries notes ws bs told spells passes counted run in
    let is_run = c.made_entries_are_runs.ensures.run s consts (module_of s) settings f accepted keeps agrees made in
    let reached = c.pre_commits_are_of_bound_resources.ensures.contended b settings f keeps joint (c.made_entries_are_runs.ensures.good b settings f keeps made) in
    let is_read = c.runs_are_read_back.ensures.read_made text s consts settings true f status spells passes given short steps attempts downs (c.runs_are_read_back.ensures.status y settings f) made accounts joint reached in
    record {
      sound = c.texts_keep_states.ensures.sound text s consts spells passes counted;
      declared = declared;
      bundle = refl;
      tied = c.runs_are_tied.ensures y settings true f status accounts;
      agrees = agrees;
      alone = c.modules_are_read_back.ensures text s consts spells passes short;
      run = is_run;
      next = c.made_entries_are_runs.ensures.next s consts (module_of s) settings f accepted keeps agrees made;
      is_read = is_read;
      only = c.one_bundle.ensures (BundleText (module_of s) (constants_with s consts) l) (module_of s) (constants_with s consts) l is_read;
      read_run = log_read (module_of s) (constants_with s consts) y l f.entries (c.run_logs_are_checked.ensures y settings f status) is_run;
      accounts = accounts;
      notes = λ k i p kind e. c.notes_tell_of_leaves.ensures.record b settings true f k i p kind (accounts k) e;
      joint = joint;
      downs = reached;
      ended = λ _. law.ended text s consts settings entries notes ws bs told spells passes counted run;
      status_is = refl;
      quiet = quiet_status b settings f status refl;
      left_over = left_status status _ (one_of_five y settings f) fine;
      fine = fine;
    }
