-- The core machine's law for the system of a bound specification.
use Rattle.std.proofs.Common.{◌≡◌, ◌≤◌, ℕ, suc, List, length, Some, ap, ◌∙◌, arith}
use Rattle.pgo_base.specs.Lookup.{Vars}
use Rattle.pgo_model.specs.Choice.{Seeded, words_of}
use Rattle.pgo_model.specs.Core.{Settings, Core, Reaches, rules_of}
use Rattle.pgo_model.specs.Entries.{AllLead, states_along}
use Rattle.pgo_model.specs.Log.{After, StateAt}
use Rattle.pgo_model.specs.Machine.{state_at}
use Rattle.pgo_model.specs.MachineLaw.{run_turns_good}
use Rattle.pgo_model.specs.MachineLists.{nth_below}
use Rattle.pgo_model.specs.MachineRuns.{run_turns_entries}
use Rattle.pgo_model.specs.Accounts.{Fits}
use Rattle.pgo_model.specs.System.{System}
use Rattle.pgo_syntax.specs.declared.bound.Bound.{Bound}
use Rattle.pgo_meaning.specs.System.{system_of}
use Rattle.pgo_systems.specs.Premises.{IsGoodState, KeepsStates}
use Rattle.pgo_systems.proofs.Fitted.{StatesKept, entry_leads}

module _ (b : Bound) (h : KeepsStates b) (states : StatesKept) (settings : Settings) (fits : Fits (rules_of (system_of b) settings) (Reaches (system_of b)) (IsGoodState b)) (turns : List ℕ) where
  abbrev y : System
  y = system_of b

  abbrev at : ℕ → Vars
  at n = state_at (rules_of y settings) y.start (Core y settings turns).entries n

  -- each state along a run is good
  pub run_good : (n : ℕ) → n ≤ length (Core y settings turns).entries → IsGoodState b (at n)
  run_good n le = run_turns_good (rules_of y settings) (Reaches y) (IsGoodState b) fits turns n le

  -- each entry leads from the state before it to the state behind it
  pub run_leads : AllLead (rules_of y settings) y.start (Core y settings turns).entries
  run_leads p e q =
      let made = run_turns_entries (rules_of y settings) (Reaches y) (IsGoodState b) fits turns p e q in
      let n = nth_below (Core y settings turns).entries p e q in
      ap (After (at p)) made.change
      ∙ entry_leads b h states e.instance (words_of (Seeded settings.seed e.instance e.attempt)) (at p) (at (suc p)) made.prints (run_good p (omega (arith, n))) made.outcome

  pub run_states : (n : ℕ) → n ≤ length (Core y settings turns).entries → StateAt y.start (Core y settings turns).entries n ≡ Some (at n)
  run_states n le = states_along (rules_of y settings) y.start (Core y settings turns).entries run_leads n le
