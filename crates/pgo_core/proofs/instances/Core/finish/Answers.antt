use Rattle.std.proofs.Common.{length, sym, ap, ◌∙◌, subst}
use Rattle.pgo_model.specs.Machine.{nth}
use Rattle.pgo_syntax.specs.RecordView.{settings_view}
use Rattle.pgo_workers.specs.Worlds.{Layout}
use Rattle.pgo_core.specs.Cores.{IsSafe, AreAccounts, AreAccountsOf}
use Rattle.pgo_core.specs.ExclusiveBoards.{views_of}
use Rattle.pgo_core.specs.Instances.{settings_of}
use Rattle.pgo_core.proofs.FinishedAccounts.{few_records, accounts_are}
use Rattle.pgo_core.proofs.instances.Core.finish.Goals as goal

pub accounts_of-requires-clause-bounded : goal.accounts_of-requires-clause-bounded
accounts_of-requires-clause-bounded g c =
    let d = c.stop_all.new.self in
    λ k w e.
    few_records (g.S.Sections.system d.sections) (g.S.Sections.tree d.sections) (g.S.Sections.walk d.sections) (settings_of d) k w _
    (c.stop_all.ensures.safe.seats.seats k w (ap (λ l. nth l k) (sym c.as_slice.ensures.value) ∙ e))

pub returns-clause-journal : goal.returns-clause-journal
returns-clause-journal g c =
    let a = c.args.self in let d = c.stop_all.new.self in let st = c.stop_all.ensures.stopped in
    λ turns stands. record {
      start = c.into_journal.ensures.start ∙ ap (λ (l : Layout). l.start) c.stop_all.ensures.safe.layout ∙ ap (λ x. (g.S.Sections.system x).start) st.same.sections;
      entries = λ fits. c.into_journal.ensures.entries 0 ∙ st.journal.entries 0 ∙ (stands fits).entries 0;
      notes = λ fits. c.into_journal.ensures.notes 0 ∙ st.journal.notes 0 ∙ (stands fits).notes 0;
    }

pub returns-clause-accounts : goal.returns-clause-accounts
returns-clause-accounts g c =
    let a = c.args.self in let d = c.stop_all.new.self in let st = c.stop_all.ensures.stopped in
    let y = g.S.Sections.system a.sections in let tree = g.S.Sections.tree a.sections in let walk = g.S.Sections.walk a.sections in
    let safe = subst (λ x. IsSafe (g.S.Sections.system x) (g.S.Sections.tree x) (g.S.Sections.walk x) (settings_of a) d.workers.items (views_of d.board)) st.same.sections
    (subst (λ s. IsSafe (g.S.Sections.system d.sections) (g.S.Sections.tree d.sections) (g.S.Sections.walk d.sections) s d.workers.items (views_of d.board)) (ap settings_view st.same.settings) c.stop_all.ensures.safe.seats) in
    λ turns stands fits.
    subst (AreAccounts y (settings_of a) _) (sym c.from_vec.ensures)
    (accounts_are y tree walk (settings_of a) fits turns a.made _ a.workers.items d.workers.items (views_of a.board) (views_of d.board) (stands fits) safe st.workers a.workers.ok.0
    c.accounts_of.new.accounts.items (c.accounts_of.ensures.as_many ∙ ap length c.as_slice.ensures.value) (subst (λ l. AreAccountsOf l c.accounts_of.new.accounts.items) c.as_slice.ensures.value c.accounts_of.ensures.are))
