-- A turn of nobody changes nothing.
use Rattle.std.proofs.Common.{◌≡◌, ◌≤◌, ℕ, true, false, None, List, [], ◌∷◌, ◌++◌, length, sym, ap, ◌∙◌, subst}
use Rattle.std.specs.Prelude.{if◌then◌else◌, nat_lt}
use Rattle.pgo_model.specs.Core.{Settings, Reaches, rules_of}
use Rattle.pgo_model.specs.Log.{Effect}
use Rattle.pgo_model.specs.Machine.{Machine, opened, last_state}
use Rattle.pgo_model.specs.MachineAccounts.{append_none}
use Rattle.pgo_model.specs.System.{System}
use Rattle.pgo_workers.specs.CoreTurns.{IsCore}
use Rattle.pgo_workers.specs.Walk.{Walk}
use Rattle.pgo_workers.specs.Worlds.{layout_of, value_in, world_of}
use Rattle.pgo_section.specs.Programs.{Trees, IsGood, program_of}
use Rattle.pgo_section.specs.declared.worker.Worker.{Worker}
use Rattle.pgo_core.specs.AllViews.{AllViews, HasValue}
use Rattle.pgo_core.specs.Cores.{CoreFits, StandsWith, turned, worker_at}
use Rattle.pgo_core.proofs.CoreTurned.{one_more}

-- the core stands where the machine is, whatever turns it came there by
pub stands_there : {C : Type 0} (y : System) (settings : Settings) (turns others : List ℕ) → turned y settings turns ≡ turned y settings others → (tree : Trees) (walk : C → Walk) (made : ℕ) (ws : List (Worker C)) (s : AllViews Effect) (fits : CoreFits y tree settings)
    → StandsWith y tree walk settings fits turns made ws s → StandsWith y tree walk settings fits others made ws s
stands_there y settings turns others same tree walk made ws s fits st = record {
  core = subst (λ n. IsCore (world_of (layout_of y)) (program_of y tree settings) (Reaches y) (IsGood y) fits.runs fits.differs n (worker_at y tree walk ws) s.view) same st.core;
  entries = λ j. st.entries j ∙ ap (λ (n : Machine Effect). n.entries) same;
  notes = λ j. st.notes j ∙ ap (λ (n : Machine Effect). n.notes) same;
  awake = st.awake;
  counts = λ r. ap (λ (n : Machine Effect). n.counts r) (sym same) ∙ st.counts r;
  bounded = λ r. subst (λ (n : Machine Effect). n.counts r ≤ made) same (st.bounded r);
  most = st.most;
  numbers = st.numbers;
  free = subst (λ (n : Machine Effect). (r : ℕ) → nat_lt r (length y.resources) ≡ true → n.holder r ≡ None → HasValue (s.content r) (value_in (layout_of y) (last_state (rules_of y settings) n) r)) same st.free;
}

module _ (y : System) (settings : Settings) (turns : List ℕ) (k : ℕ) (nobody : nat_lt k (length y.members) ≡ false) where
  nobody_turns : turned y settings (turns ++ (k ∷ [])) ≡ turned y settings turns
  nobody_turns =
      one_more (rules_of y settings) opened turns k
      ∙ ap (λ b. if b then (if Rattle.pgo_model.specs.Machine.has_ended (rules_of y settings) (turned y settings turns) k then turned y settings turns
      else if ((turned y settings turns).workers k).giving then Rattle.pgo_model.specs.Machine.gives (turned y settings turns) k ((turned y settings turns).workers k).held
      else Rattle.pgo_model.specs.Machine.does (rules_of y settings) (turned y settings turns) k
      (Rattle.pgo_model.specs.Machine.nth
      (Rattle.pgo_model.specs.Machine.events (Rattle.pgo_model.specs.Machine.section (rules_of y settings) (turned y settings turns) k).trace (Rattle.pgo_model.specs.Machine.section (rules_of y settings) (turned y settings turns) k).end [])
      ((turned y settings turns).workers k).done)) else turned y settings turns) nobody

  pub nobody_records : ((turned y settings (turns ++ (k ∷ []))).workers k).records ≡ ((turned y settings turns).workers k).records ++ []
  nobody_records = ap (λ (n : Machine Effect). (n.workers k).records) nobody_turns ∙ append_none ((turned y settings turns).workers k).records

  pub nobody_stands : {C : Type 0} (tree : Trees) (walk : C → Walk) (made : ℕ) (ws : List (Worker C)) (s : AllViews Effect) (fits : CoreFits y tree settings) → StandsWith y tree walk settings fits turns made ws s
      → StandsWith y tree walk settings fits (turns ++ (k ∷ [])) made ws s
  nobody_stands tree walk made ws s fits st = stands_there y settings turns (turns ++ (k ∷ [])) (sym nobody_turns) tree walk made ws s fits st
