use denote.Exit.{no}
use denote.Param.Send.{param_send, arg_send}
use Rattle.std.proofs.Common.{◌≤◌, ◌/◌, List, length, sym, ap, ◌∙◌, subst, arith}
use Rattle.std.proofs.lemmas.List.{length-map}
use Rattle.pgo_journal.specs.Journal.{JournalView}
use Rattle.pgo_model.specs.System.{System}
use Rattle.pgo_syntax.specs.RecordView.{settings_view}
use Rattle.pgo_section.specs.declared.worker.Worker.{Worker}
use Rattle.pgo_shared.proofs.Sent.{board_send}
use Rattle.pgo_shared.specs.declared.seat_board.BoardSeat.{BoardSeat}
use Rattle.pgo_workers.specs.Worlds.{Layout, layout_of, own_in}
use Rattle.pgo_closed.specs.SystemRuns.{IsClosedRun}
use Rattle.pgo_joined.specs.JoinedRuns.{AreEnded, HaveWorked, IsClosedBy, MayClose, boards_of, told_by, workers_of}
use Rattle.pgo_run_all.proofs.AllRuns.{all_rest, even_share, many_workers}
use Rattle.pgo_run_all.specs.contracts.run_parked.run_parked_workers.{R-row}
use Rattle.pgo_run_all.proofs.run_parked.run_parked_workers.Goals as goal

pub jobs_of-requires-clause-owns : goal.jobs_of-requires-clause-owns
jobs_of-requires-clause-owns g c = λ k o e. c.requires.owns k o e ∙ ap (λ (z : System). own_in (layout_of z) z.start k) (sym c.requires.system)

pub jobs_of-requires-clause-share : goal.jobs_of-requires-clause-share
jobs_of-requires-clause-share g c =
    let n = length c.args.bound.now.instances in
    let share = c.in_ok-shared.ensures.terms.2 ∙ ap (λ (j : JournalView). j.room / n) c.in_ok-journal.ensures in
    subst (λ x. c.args.settings.now.attempts ≤ x) (sym share) (even_share c.args.settings.now.attempts n c.requires.instances)

pub run_parked_jobs-requires-send-B : goal.run_parked_jobs-requires-send-B
run_parked_jobs-requires-send-B g c κs within = param_send 3 _ (arg_send _ no _ (board_send (R-row g.row.T g.row.P g.row.S g.row.R g.row.G) c.type_bounds.send-R g.R.Resource _))

pub run_parked_jobs-requires-after_bounds : goal.run_parked_jobs-requires-after_bounds
run_parked_jobs-requires-after_bounds g c κs within = λ k d near. (c.in_ok-jobs.ensures.jobs k d (let m = c.in_ok-jobs.ensures.as_many in omega (arith, near, m))).fits

pub ended-requires : goal.ended-requires
ended-requires g c =
    let m = c.in_ok-after.ensures.len in
    record { nothing = λ k d near. (c.in_ok-after.ensures.each k d (omega (arith, near, m))).nothing }

pub close-requires : goal.close-requires
close-requires g c =
    let y = g.S.Sections.system c.args.sections.now in
    let settings = settings_view c.args.settings.now in
    let jobs = c.in_ok-jobs.jobs.items in let after = c.in_ok-after.after.items in
    let many = c.in_ok-jobs.ensures.as_many in
    let have : HaveWorked y (g.S.Sections.tree c.args.sections.now) (g.S.Sections.walk c.args.sections.now) settings c.in_ok-shared.shared jobs after = record {
      layout_is = c.in_ok-shared.ensures.terms.0 ∙ ap layout_of (sym c.requires.system);
      steps_are = c.in_ok-shared.ensures.terms.1 ∙ ap (λ (j : JournalView). j.steps) c.in_ok-journal.ensures;
      many = many ∙ c.requires.owns_as_many ∙ sym (ap (λ (z : System). length z.members) c.requires.system ∙ length-map c.args.bound.now.instances _);
      new = λ k d near. c.in_ok-jobs.ensures.jobs k d (omega (arith, near, many));
      as_many = c.in_ok-after.ensures.len;
      worked = c.in_ok-after.ensures.each;
    } in
    let ended = subst (λ (ws : List (Worker g.row.P.Denot)). AreEnded after ws c.as_slice-2.result.now) (sym c.as_slice.ensures.value)
    (subst (λ (ss : List (BoardSeat g.row.R.Denot g.R.Resource)). AreEnded after c.in_ok-workers.workers.items ss) (sym c.as_slice-2.ensures.value) c.in_ok-workers.ensures) in
    let may = subst (λ (ss : List (BoardSeat g.row.R.Denot g.R.Resource)). MayClose c.in_ok-shared.shared ss) c.as_slice-2.ensures.value
    (c.joined_runs_are_closed.ensures.may_close y (g.S.Sections.tree c.args.sections.now) (g.S.Sections.walk c.args.sections.now) settings jobs after have ended) in
    record { all = (c.in_ok-workers.seats.ok.0 ∙ may.0, may.1) }

pub returns : goal.returns
returns g c =
    let y = g.S.Sections.system c.args.sections.now in let tree = g.S.Sections.tree c.args.sections.now in let walk = g.S.Sections.walk c.args.sections.now in
    let settings = settings_view c.args.settings.now in
    let jobs = c.in_ok-jobs.jobs.items in let after = c.in_ok-after.after.items in
    let many = c.in_ok-jobs.ensures.as_many in
    let layout = c.in_ok-shared.ensures.terms.0 ∙ ap layout_of (sym c.requires.system) in
    let have : HaveWorked y tree walk settings c.in_ok-shared.shared jobs after = record {
      layout_is = layout;
      steps_are = c.in_ok-shared.ensures.terms.1 ∙ ap (λ (j : JournalView). j.steps) c.in_ok-journal.ensures;
      many = many ∙ c.requires.owns_as_many ∙ sym (ap (λ (z : System). length z.members) c.requires.system ∙ length-map c.args.bound.now.instances _);
      new = λ k d near. c.in_ok-jobs.ensures.jobs k d (omega (arith, near, many));
      as_many = c.in_ok-after.ensures.len;
      worked = c.in_ok-after.ensures.each;
    } in
    let slices = subst (λ (ws : List (Worker g.row.P.Denot)). AreEnded after ws c.as_slice-2.result.now) (sym c.as_slice.ensures.value)
    (subst (λ (ss : List (BoardSeat g.row.R.Denot g.R.Resource)). AreEnded after c.in_ok-workers.workers.items ss) (sym c.as_slice-2.ensures.value) c.in_ok-workers.ensures) in
    let closed = subst (λ (ss : List (BoardSeat g.row.R.Denot g.R.Resource)). IsClosedBy c.in_ok-shared.shared ss c.in-Ok.journal.entries c.in-Ok.journal.notes) (sym c.as_slice-2.ensures.value) c.in-Ok.ensures.closed in
    record {
      boards = boards_of after;
      told = told_by c.as_slice-2.result.now;
      closed = subst (λ (ws : List (Worker g.row.P.Denot)). IsClosedRun y tree settings c.in-Ok.journal.entries c.in-Ok.journal.notes (workers_of walk ws) (boards_of after) (told_by c.as_slice-2.result.now)) c.as_slice.ensures.value
          (c.joined_runs_are_closed.ensures.closed y tree walk settings jobs after c.in-Ok.journal.entries c.in-Ok.journal.notes c.requires.asked have slices closed);
      start = c.in-Ok.ensures.journal.start ∙ ap (λ (l : Layout). l.start) layout;
      as_many = many_workers y tree walk settings c.in_ok-shared.shared jobs after have c.in_ok-workers.workers.items c.in_ok-workers.seats.items c.in_ok-workers.ensures;
      each = all_rest y tree walk settings c.in_ok-shared.shared jobs after have c.in_ok-workers.workers.items c.in_ok-workers.seats.items c.in_ok-workers.ensures;
    }
