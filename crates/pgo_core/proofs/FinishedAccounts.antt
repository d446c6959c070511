-- The accounts of stopped workers are those of the machine.
use Rattle.std.proofs.Common.{◌≡◌, ◌≤◌, ◌<◌, ℕ, zero, suc, true, List, [], ◌∷◌, length, Some, refl, sym, ap, ◌∙◌, subst, arith, lt-ltb}
use Rattle.std.specs.List.{list_all}
use Rattle.std.specs.Prelude.{nat_lt}
use Rattle.pgo_model.specs.Core.{Settings, Core}
use Rattle.pgo_model.specs.Log.{Effect}
use Rattle.pgo_model.specs.Machine.{nth, finished_of}
use Rattle.pgo_model.specs.System.{System}
use Rattle.pgo_journal.specs.declared.finished.Account.{Account}
use Rattle.pgo_syntax.specs.ManyLeaves.{tells_many}
use Rattle.pgo_syntax.specs.RecordView.{result_view}
use Rattle.pgo_workers.specs.View.{View}
use Rattle.pgo_workers.specs.Walk.{Walk}
use Rattle.pgo_section.specs.Programs.{Trees}
use Rattle.pgo_section.specs.declared.worker.Worker.{Worker}
use Rattle.pgo_core.specs.AllViews.{AllViews}
use Rattle.pgo_core.specs.Cores.{CoreFits, StandsWith, IsSafe, IsSeat, Rested, RestedBelow, AreAccounts, AreAccountsOf, IsAccount, IsAccountOf, attempts_from}
use Rattle.pgo_core.proofs.CoreTurned.{nth_inside, map_length}
use Rattle.pgo_core.proofs.Stopped.{stop_records, stop_end}

nth_there : {A : Type 0} (l : List A) (k : ℕ) → k < length l → (x : A) × (nth l k ≡ Some x)
nth_there [] k h = absurd (omega (arith, h))
nth_there (x ∷ l) zero h = (x, refl)
nth_there (x ∷ l) (suc k) h = nth_there l k (omega (arith, h))

module _ {C : Type 0} (y : System) (tree : Trees) (walk : C → Walk) (settings : Settings) where
  -- there are no more records than attempts
  pub few_records : (j : ℕ) (w : Worker C) (b : View Effect) → IsSeat y tree walk settings j w b → length w.records.items ≤ settings.attempts
  few_records j w b seat = let a = seat.met.meets.accounts.bounded in let e = map_length result_view w.records.items in let s = ap (λ (s : Settings). s.attempts) seat.settings_are in omega (arith, a, e, s)

  module _ (fits : CoreFits y tree settings) (turns : List ℕ) (made n : ℕ) (ws vs : List (Worker C)) (s t : AllViews Effect) (st : StandsWith y tree walk settings fits turns made ws s) (safe : IsSafe y tree walk settings vs t)
      (rested : RestedBelow n ws vs) (all : n ≡ length ws) where
    account_is : (k : ℕ) (a : Account) (v : Worker C) → nth vs k ≡ Some v → IsAccountOf v a → IsAccount y settings (finished_of (Core y settings turns)) k a
    account_is k a v here is =
        let inside = nth_inside vs k v here in
        let old = nth_there ws k (subst (λ n. k < n) rested.as_many inside) in
        let there : nat_lt k (length y.members) ≡ true = lt-ltb k (length y.members) (subst (λ n. k < n) safe.as_many inside) in
        let rests : Rested old.0 v = record {
          records = rested.records k old.0 v old.1 here;
          out = rested.out k old.0 v old.1 here;
          own = rested.own k old.0 v old.1 here;
          giving = rested.giving k v (omega (arith, inside, rested.as_many, all)) here;
        } in
        let seat = safe.seats k v here in
        record {
          told_are = is.told_are ∙ ap (attempts_from 1) (sym (stop_records y tree walk settings fits turns made k ws s st old.0 v (t.view k) old.1 there rests seat.number seat.settings_are seat.met));
          many = ap (list_all tells_many) is.results ∙ seat.met.fits.told;
          end_is = is.end_is ∙ stop_end y tree walk settings fits turns made k ws s st old.0 v (t.view k) old.1 there rests seat.number seat.settings_are seat.met;
        }

    pub accounts_are : (accounts : List Account) → length accounts ≡ length vs → AreAccountsOf vs accounts → AreAccounts y settings (finished_of (Core y settings turns)) accounts
    accounts_are accounts len are = record { as_many = len ∙ safe.as_many; each = λ k a e. let q = are k a e in account_is k a q.0 q.1 q.2 }
