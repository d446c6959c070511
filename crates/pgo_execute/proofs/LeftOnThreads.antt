-- What a run on threads leaves is what is written.
use Rattle.std.proofs.Common.{◌≡◌, refl, sym, ap, subst, ◌∙◌}
use Rattle.pgo_accesses.specs.Programs.{tree_of}
use Rattle.pgo_closed.specs.SystemRuns.{SystemPremises, left}
use Rattle.pgo_code.specs.declared.program.Program.{Program}
use Rattle.pgo_core.specs.Cores.{AreAccounts}
use Rattle.pgo_journal.specs.declared.finished.Finished.{Finished}
use Rattle.pgo_log_write.specs.IsFinished.{IsFinished}
use Rattle.pgo_meaning.specs.System.{system_of}
use Rattle.pgo_model.specs.Core.{Settings}
use Rattle.pgo_model.specs.System.{System}
use Rattle.pgo_places.specs.Trees.{tree_in}
use Rattle.pgo_run_all.specs.LeftBehind.{LeavesClosed}
use Rattle.pgo_section.specs.Programs.{Trees}
use Rattle.pgo_syntax.specs.declared.bound.Bound.{Bound}
use Rattle.pgo_threads.specs.Drives.{Differing}
use Rattle.pgo_workers.specs.Walk.{Own}
use Rattle.std.specs.Prelude.{ℕ}
use Rattle.pgo_execute.proofs.Left.{ends_same, records_are}

pub finished_closed : (y : System) (tree : Trees) (settings : Settings) (f : Finished) → (l : LeavesClosed y tree settings f)
    → IsFinished y settings (left y tree settings f.journal.entries f.journal.notes l.workers) f
finished_closed y tree settings f l = record {
  start = l.start;
  entries = refl;
  notes = refl;
  count = l.accounts.as_many;
  records = λ k a e. records_are a.records 1 _ (l.accounts.each k a e).told_are;
  ends = λ k a e. (l.accounts.each k a e).end_is ∙ ends_same _;
}

-- the trees of a program that is lowered are those of what is bound
same_trees : (p : Program) (b : Bound) → ((seed k a : ℕ) (own : Own) → tree_in p seed k a own ≡ tree_of b seed k a own) → tree_in p ≡ tree_of b
same_trees p b trees = λ i. λ seed k a own. trees seed k a own i

module _ (p : Program) (b : Bound) (is : p.bound.now ≡ b) (trees : (seed k a : ℕ) (own : Own) → tree_in p seed k a own ≡ tree_of b seed k a own) where
  -- what holds of the one holds of the other
  pub of_program : (P : System → Trees → Type 0) → P (system_of b) (tree_of b) → P (system_of p.bound.now) (tree_in p)
  of_program P h = subst (λ (x : Bound). P (system_of x) (tree_in p)) (sym is) (subst (P (system_of b)) (sym (same_trees p b trees)) h)

  pub of_bound : (P : System → Trees → Type 0) → P (system_of p.bound.now) (tree_in p) → P (system_of b) (tree_of b)
  of_bound P h = subst (λ (x : Bound). P (system_of x) (tree_of b)) is (subst (P (system_of p.bound.now)) (same_trees p b trees) h)
