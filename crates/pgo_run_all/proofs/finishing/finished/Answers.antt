use Rattle.std.proofs.Common.{List, length, refl, sym, ap, ◌∙◌, subst}
use Rattle.pgo_core.specs.Cores.{AreAccountsOf}
use Rattle.pgo_journal.specs.declared.finished.Account.{Account}
use Rattle.pgo_section.specs.declared.worker.Worker.{Worker}
use Rattle.pgo_syntax.specs.RecordView.{settings_view}
use Rattle.pgo_model.specs.Machine.{nth}
use Rattle.pgo_closed.specs.SystemRuns.{left}
use Rattle.pgo_joined.specs.JoinedRuns.{workers_of}
use Rattle.pgo_run_all.proofs.LeftAccounts.{accounts_are, few_records}
use Rattle.pgo_run_all.proofs.finishing.finished.Goals as goal

pub accounted-requires : goal.accounted-requires
accounted-requires g c =
    let few = few_records (g.S.Sections.system c.args.sections.now) (g.S.Sections.tree c.args.sections.now) (settings_view c.args.settings.now) (g.S.Sections.walk c.args.sections.now) c.args.journal c.args.workers.items c.requires.left in
    record { bounded = λ k w e. few k w (ap (λ l. nth l k) (sym c.as_slice.ensures.value) ∙ e) }

pub returns-clause-closed : goal.returns-clause-closed
returns-clause-closed g c =
    let y = g.S.Sections.system c.args.sections.now in let tree = g.S.Sections.tree c.args.sections.now in let walk = g.S.Sections.walk c.args.sections.now in
    let settings = settings_view c.args.settings.now in
    let all = c.requires.left in
    let ws = c.args.workers.items in
    let j = c.args.journal in
    record {
      workers = workers_of walk ws;
      boards = all.boards;
      told = all.told;
      closed = all.closed;
      start = all.start;
      accounts = accounts_are y tree settings walk j.entries j.notes ws all.as_many all.each
          (λ k near. c.closed_runs_are_accounted.ensures.ends y tree settings j.entries j.notes (workers_of walk ws) all.boards all.told c.requires.premises all.closed k near)
          c.from_vec.result (ap length c.from_vec.ensures ∙ c.in_ok-accounts.ensures.as_many ∙ ap length c.as_slice.ensures.value)
          (subst (λ (l : List (Worker g.row.P.Denot)). AreAccountsOf l c.from_vec.result) c.as_slice.ensures.value
          (subst (λ (l : List Account). AreAccountsOf c.as_slice.result.now l) (sym c.from_vec.ensures) c.in_ok-accounts.ensures.are));
    }

pub returns-clause-run : goal.returns-clause-run
returns-clause-run g c =
    let y = g.S.Sections.system c.args.sections.now in let tree = g.S.Sections.tree c.args.sections.now in let walk = g.S.Sections.walk c.args.sections.now in
    let settings = settings_view c.args.settings.now in
    let all = c.requires.left in
    let ws = c.args.workers.items in
    let j = c.args.journal in
    let law = c.closed_runs_are_accounted.ensures in
    record {
      ran = left y tree settings j.entries j.notes (workers_of walk ws);
      runs = record {
        made = law.made y tree settings j.entries j.notes (workers_of walk ws) all.boards all.told c.requires.premises all.closed;
        accounts = λ k. law.accounts y tree settings j.entries j.notes (workers_of walk ws) all.boards all.told c.requires.premises all.closed k;
        joint = law.joint y tree settings j.entries j.notes (workers_of walk ws) all.boards all.told c.requires.premises all.closed;
        ended = law.ended y tree settings j.entries j.notes (workers_of walk ws) all.boards all.told c.requires.premises all.closed;
      };
      start = all.start;
      entries = refl;
      notes = refl;
      accounts = accounts_are y tree settings walk j.entries j.notes ws all.as_many all.each
          (λ k near. law.ends y tree settings j.entries j.notes (workers_of walk ws) all.boards all.told c.requires.premises all.closed k near)
          c.from_vec.result (ap length c.from_vec.ensures ∙ c.in_ok-accounts.ensures.as_many ∙ ap length c.as_slice.ensures.value)
          (subst (λ (l : List (Worker g.row.P.Denot)). AreAccountsOf l c.from_vec.result) c.as_slice.ensures.value
          (subst (λ (l : List Account). AreAccountsOf c.as_slice.result.now l) (sym c.from_vec.ensures) c.in_ok-accounts.ensures.are));
    }
