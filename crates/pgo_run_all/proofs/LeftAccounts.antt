-- The accounts of workers that have ended are those of what the run leaves.
use Rattle.std.proofs.Common.{◌≡◌, ◌≤◌, ◌<◌, ℕ, zero, suc, Bool, true, false, List, [], ◌∷◌, length, map, Option, Some, None, refl, sym, ap, ◌∙◌, subst, arith, lt-ltb}
use Rattle.std.specs.List.{list_all}
use Rattle.std.specs.Prelude.{if◌then◌else◌, nat_eq, nat_lt, option_map}
use Rattle.std.proofs.lemmas.List.{length-map}
use Rattle.std.proofs.lemmas.Option.{same_Some}
use Rattle.pgo_base.specs.Lookup.{find}
use Rattle.pgo_core.specs.Cores.{AreAccounts, AreAccountsOf, IsAccount, IsAccountOf, attempts_from}
use Rattle.pgo_journal.specs.Journal.{JournalView}
use Rattle.pgo_journal.specs.declared.finished.Account.{Account}
use Rattle.pgo_model.specs.Core as core
use Rattle.pgo_model.specs.Core.{Settings, end_by, end_or_spent, is_place}
use Rattle.pgo_model.specs.Log.{Effect}
use Rattle.pgo_model.specs.Machine.{Entry, Note, nth}
use Rattle.pgo_model.specs.System.{System}
use Rattle.pgo_model.specs.Written.{done, pc}
use Rattle.pgo_syntax.specs.ManyLeaves.{tells_many}
use Rattle.pgo_syntax.specs.RecordView.{ended, result_view}
use Rattle.pgo_syntax.specs.declared.records.End.TheVariants as ends
use Rattle.pgo_workers.specs.Walk.{Walk}
use Rattle.pgo_workers.specs.Worker as spec
use Rattle.pgo_section.specs.Programs.{Trees}
use Rattle.pgo_section.specs.Sight.{end_at_rest, end_between, end_of, see}
use Rattle.pgo_section.specs.declared.worker.Worker.{Worker}
use Rattle.pgo_closed.specs.SystemRuns.{end_seen, left}
use Rattle.pgo_joined.specs.JoinedRuns.{workers_of}
use Rattle.pgo_run_all.specs.LeftBehind.{IsAtRest, LeavesWorkers}

nth_inside : {A : Type 0} (l : List A) (k : ℕ) (x : A) → nth l k ≡ Some x → k < length l
nth_inside [] k x e = absurd (grind (arith, e))
nth_inside (y ∷ l) zero x e = omega arith
nth_inside (y ∷ l) (suc k) x e = let h = nth_inside l k x e in omega (arith, h)

-- the worker by number
worker_at : {C : Type 0} (walk : C → Walk) (ws : List (Worker C)) (k : ℕ) (w : Worker C) → nth ws k ≡ Some w → workers_of walk ws k ≡ see walk w
worker_at walk [] k w e = absurd (grind (arith, e))
worker_at walk (v ∷ ws) zero w e = ap (see walk) (same_Some v w e)
worker_at walk (v ∷ ws) (suc k) w e = worker_at walk ws k w e

not_both : true ≡ false → ⊥
not_both e = absurd (cc)

no_end : {A : Type 0} (x : A) → None ≡ Some x → ⊥
no_end x e = absurd (cc)

if_true : {A : Type 0} (b : Bool) (x z : A) → b ≡ true → (if b then x else z) ≡ x
if_true true x z e = refl
if_true false x z e = absurd (not_both (sym e))

module _ {C : Type 0} (walk : C → Walk) (settings : Settings) (w : Worker C) (rested : IsAtRest settings w) where
  rests : (a g : Bool) (p : Option C) → a ≡ false → (if a then Some ends.NoMemory else end_between w g p) ≡ Some rested.says.0 → (if a then Some ends.NoMemory else end_between w g p) ≡ end_at_rest w
  rests true g p h x = absurd (not_both h)
  rests false true p h x = absurd (no_end rested.says.0 x)
  rests false false (Some c) h x = absurd (no_end rested.says.0 x)
  rests false false None h x = refl

  by_done : (b : Bool) → (if b then Some ends.Done else option_map ended (end_or_spent (end_by (map result_view w.records.items)) (nat_eq (length w.records.items) w.settings.attempts)))
      ≡ option_map ended (if b then Some core.Done else end_or_spent (end_by (map result_view w.records.items)) (nat_eq (length (map result_view w.records.items)) settings.attempts))
  by_done true = refl
  by_done false =
      let long : length w.records.items ≡ length (map result_view w.records.items) = sym (length-map w.records.items result_view) in
      λ i. option_map ended (end_or_spent (end_by (map result_view w.records.items)) (nat_eq (long i) (rested.settings_are i).attempts))

  -- how a worker at rest has ended is what it sees
  end_is_seen : end_of w ≡ option_map ended (end_seen settings (see walk w))
  end_is_seen = rests w.out_of_memory w.giving w.place rested.awake rested.says.1 ∙ by_done (is_place done (find pc w.own))

module _ {C : Type 0} (y : System) (tree : Trees) (settings : Settings) (walk : C → Walk) (entries : List (Entry Effect)) (notes : List Note) (ws : List (Worker C)) (as_many : length ws ≡ length y.members)
    (each : (k : ℕ) (w : Worker C) → nth ws k ≡ Some w → IsAtRest settings w)
    (law : (k : ℕ) → k < length y.members → core.end_of y settings (left y tree settings entries notes (workers_of walk ws)) k ≡ end_seen settings (workers_of walk ws k)) where
  account_is : (k : ℕ) (a : Account) (w : Worker C) → nth ws k ≡ Some w → IsAccountOf w a → IsAccount y settings (left y tree settings entries notes (workers_of walk ws)) k a
  account_is k a w here is =
      let near : k < length y.members = subst (λ n. k < n) as_many (nth_inside ws k w here) in
      let at = worker_at walk ws k w here in
      record {
        told_are = is.told_are ∙ ap (attempts_from 1) (sym (if_true (nat_lt k (length y.members)) (workers_of walk ws k).records [] (lt-ltb k (length y.members) near) ∙ ap (λ (v : spec.Worker). v.records) at));
        many = ap (list_all tells_many) is.results ∙ (each k w here).told;
        end_is = is.end_is ∙ end_is_seen walk settings w (each k w here) ∙ ap (option_map ended) (sym (law k near ∙ ap (end_seen settings) at));
      }

  pub accounts_are : (accounts : List Account) → length accounts ≡ length ws → AreAccountsOf ws accounts → AreAccounts y settings (left y tree settings entries notes (workers_of walk ws)) accounts
  accounts_are accounts len are = record { as_many = len ∙ as_many; each = λ k a e. let q = are k a e in account_is k a q.0 q.1 q.2 }

module _ {C : Type 0} (y : System) (tree : Trees) (settings : Settings) (walk : C → Walk) (j : JournalView) (ws : List (Worker C)) (all : LeavesWorkers y tree settings walk j ws) where
  -- there are no more records than attempts
  pub few_records : (k : ℕ) (w : Worker C) → nth ws k ≡ Some w → length w.records.items ≤ settings.attempts
  few_records k w e =
      let near : k < length y.members = subst (λ n. k < n) all.as_many (nth_inside ws k w e) in
      let bound = subst (λ (v : spec.Worker). length v.records ≤ settings.attempts) (worker_at walk ws k w e) (all.closed.ended k near).meets.accounts.bounded in
      let long = length-map w.records.items result_view in
      omega (arith, bound, long)
