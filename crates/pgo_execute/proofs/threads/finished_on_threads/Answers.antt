use denote.Exit.{no}
use denote.Param.Send.{param_send, param_sync, arg_send, arg_sync}
use Rattle.std.proofs.Crossing.{Box-send}
use Rattle.std.proofs.Common.{IfOk, ap, sym, subst}
use Rattle.std.proofs.lemmas.Result.{IfOk-weaker}
use Rattle.pgo_closed.specs.SystemRuns.{SystemPremises}
use Rattle.pgo_execute.proofs.Crossing_pgo_places.{attempt_send, runnable_sync}
use Rattle.pgo_execute.proofs.LeftOnThreads.{of_bound, of_program}
use Rattle.pgo_meaning.specs.System.{system_of}
use Rattle.pgo_links.proofs.Linking.{links_fit}
use Rattle.pgo_links.proofs.link.Link.TheSendSync as link_kit
use Rattle.pgo_starts.proofs.Crossing_pgo_starts.{content_row_send}
use Rattle.pgo_starts.specs.ContentView.{content_shown}
use Rattle.pgo_workers.specs.Worlds.{layout_of}
use Rattle.pgo_resource.specs.PlainRows.{FitsStart}
use Rattle.pgo_run_all.specs.LeftBehind.{LeavesClosed}
use Rattle.pgo_syntax.specs.RecordView.{settings_view}
use Rattle.pgo_threads.specs.Drives.{Differing}
use Rattle.pgo_execute.proofs.threads.finished_on_threads.Goals as goal

pub run_all-requires-clause-system : goal.run_all-requires-clause-system
run_all-requires-clause-system g c κs within = ap (λ r. system_of r.now) c.in_ok-sections.ensures.bound

pub run_all-requires-clause-asked : goal.run_all-requires-clause-asked
run_all-requires-clause-asked g c κs within =
    let p = c.in_ok-sections.sections.program in let b = c.args.bound.now in
    let is = ap (λ r. r.now) c.in_ok-sections.ensures.bound in
    of_program p b is (c.programs_run.ensures.trees b p is c.requires.sound.numbered c.in_ok-sections.ensures.codes) (λ y tree. Differing y tree (settings_view c.args.settings.now)) c.requires.asked

pub run_all-requires-clause-premises : goal.run_all-requires-clause-premises
run_all-requires-clause-premises g c κs within =
    let p = c.in_ok-sections.sections.program in let b = c.args.bound.now in
    let is = ap (λ r. r.now) c.in_ok-sections.ensures.bound in
    of_program p b is (c.programs_run.ensures.trees b p is c.requires.sound.numbered c.in_ok-sections.ensures.codes) (λ y tree. SystemPremises y tree (settings_view c.args.settings.now)) c.requires.premises

pub run_all-requires-clause-fit : goal.run_all-requires-clause-fit
run_all-requires-clause-fit g c κs within =
    links_fit content_shown (layout_of (system_of c.args.bound.now)) _ c.in_ok-links.links.items c.in_ok-links.ensures.linked
    (subst (λ r. IfOk r (λ v. FitsStart content_shown (layout_of (system_of c.args.bound.now)) v.items)) c.in_ok-owns.ensures.second c.contents.ensures.fit)

pub run_parked-requires-clause-fit : goal.run_parked-requires-clause-fit
run_parked-requires-clause-fit g c κs within =
    links_fit content_shown (layout_of (system_of c.args.bound.now)) _ c.in_ok-links.links.items c.in_ok-links.ensures.linked
    (subst (λ r. IfOk r (λ v. FitsStart content_shown (layout_of (system_of c.args.bound.now)) v.items)) c.in_ok-owns.ensures.second c.contents.ensures.fit)

pub run_parked-requires-clause-system : goal.run_parked-requires-clause-system
run_parked-requires-clause-system g c κs within = ap (λ r. system_of r.now) c.in_ok-sections.ensures.bound

pub run_parked-requires-clause-asked : goal.run_parked-requires-clause-asked
run_parked-requires-clause-asked g c κs within =
    let p = c.in_ok-sections.sections.program in let b = c.args.bound.now in
    let is = ap (λ r. r.now) c.in_ok-sections.ensures.bound in
    of_program p b is (c.programs_run.ensures.trees b p is c.requires.sound.numbered c.in_ok-sections.ensures.codes) (λ y tree. Differing y tree (settings_view c.args.settings.now)) c.requires.asked

pub run_parked-requires-clause-premises : goal.run_parked-requires-clause-premises
run_parked-requires-clause-premises g c κs within =
    let p = c.in_ok-sections.sections.program in let b = c.args.bound.now in
    let is = ap (λ r. r.now) c.in_ok-sections.ensures.bound in
    of_program p b is (c.programs_run.ensures.trees b p is c.requires.sound.numbered c.in_ok-sections.ensures.codes) (λ y tree. SystemPremises y tree (settings_view c.args.settings.now)) c.requires.premises

pub run_all-requires-send-P : goal.run_all-requires-send-P
run_all-requires-send-P g c κs within = param_send 1 _ (arg_send _ no _ (Box-send _ attempt_send))

pub run_all-requires-send-R : goal.run_all-requires-send-R
run_all-requires-send-R g c κs within = param_send 3 _ (arg_send _ no _ (link_kit.the_send _ content_row_send))

pub run_all-requires-sync-S : goal.run_all-requires-sync-S
run_all-requires-sync-S g c κs within = param_sync 2 _ (arg_sync _ no _ (runnable_sync _))

pub run_parked-requires-send-P : goal.run_parked-requires-send-P
run_parked-requires-send-P g c κs within = param_send 1 _ (arg_send _ no _ (Box-send _ attempt_send))

pub run_parked-requires-send-R : goal.run_parked-requires-send-R
run_parked-requires-send-R g c κs within = param_send 3 _ (arg_send _ no _ (link_kit.the_send _ content_row_send))

pub run_parked-requires-sync-S : goal.run_parked-requires-sync-S
run_parked-requires-sync-S g c κs within = param_sync 2 _ (arg_sync _ no _ (runnable_sync _))

pub returns-then-settings : goal.returns-then-settings
returns-then-settings g c =
    let p = c.in_ok-sections.sections.program in let b = c.args.bound.now in
    let is = ap (λ r. r.now) c.in_ok-sections.ensures.bound in
    IfOk-weaker c.run_parked.result _ _
    (λ f h. of_bound p b is (c.programs_run.ensures.trees b p is c.requires.sound.numbered c.in_ok-sections.ensures.codes) (λ y tree. LeavesClosed y tree (settings_view c.args.settings.now) f) h) c.run_parked.ensures.closed

pub returns : goal.returns
returns g c =
    let p = c.in_ok-sections.sections.program in let b = c.args.bound.now in
    let is = ap (λ r. r.now) c.in_ok-sections.ensures.bound in
    IfOk-weaker c.run_all.result _ _
    (λ f h. of_bound p b is (c.programs_run.ensures.trees b p is c.requires.sound.numbered c.in_ok-sections.ensures.codes) (λ y tree. LeavesClosed y tree (settings_view c.args.settings.now) f) h) c.run_all.ensures.closed
