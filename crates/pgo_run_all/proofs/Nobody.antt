-- A run of no instances: nothing is left.
use Rattle.std.proofs.Common.{◌≡◌, ◌<◌, ℕ, List, [], length, Some, sym, ap, ◌∙◌, arith}
use Rattle.pgo_journal.specs.Journal.{JournalView}
use Rattle.pgo_model.specs.Core.{Settings}
use Rattle.pgo_model.specs.Machine.{nth}
use Rattle.pgo_model.specs.System.{System}
use Rattle.pgo_section.specs.Programs.{Trees}
use Rattle.pgo_section.specs.declared.worker.Worker.{Worker}
use Rattle.pgo_workers.specs.Walk.{Walk}
use Rattle.pgo_table.specs.SeatViews.{untold}
use Rattle.pgo_joined.specs.JoinedRuns.{no_board}
use Rattle.pgo_run_all.specs.LeftBehind.{LeavesWorkers}

none_at : {A : Type 0} (p : ℕ) (x : A) → nth {A = A} [] p ≡ Some x → ⊥
none_at p x e = absurd (grind (arith, e))

pub nobody_left : {C : Type 0} (y : System) (tree : Trees) (settings : Settings) (walk : C → Walk) (j : JournalView) (ws : List (Worker C)) → length y.members ≡ 0 → j.start ≡ y.start → j.entries ≡ [] → j.notes ≡ [] → ws ≡ [] → LeavesWorkers y tree settings walk j ws
nobody_left {C} y tree settings walk j ws none start entries notes workers =
    let nobody : (k : ℕ) → k < length y.members → ⊥ = λ k h. absurd (omega (arith, h, none)) in
    record {
      boards = λ k. no_board;
      told = λ k. untold;
      closed = record {
        boards = record {
          room = let e = ap length entries in omega (arith, e);
          entries_numbered = λ p e h. absurd (none_at p e (ap (λ l. nth l p) (sym entries) ∙ h));
          notes_numbered = λ p n h. absurd (none_at p n (ap (λ l. nth l p) (sym notes) ∙ h));
          agrees = λ k m h. absurd (nobody k h);
          holder = λ k r h i. absurd (nobody k i);
          journal_holder = λ k h i. absurd (nobody k i);
          once = λ k l i j x e. absurd (none_at i x e);
        };
        sees = λ k h. absurd (nobody k h);
        tells = λ k h. absurd (nobody k h);
        ended = λ k h. absurd (nobody k h);
      };
      start = start;
      as_many = ap length workers ∙ sym none;
      each = λ k w e. absurd (none_at k w (ap (λ l. nth l k) (sym workers) ∙ e));
    }
