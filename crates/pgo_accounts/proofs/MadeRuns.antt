-- Entries that are steps, from the start of a bound specification whose states are kept: the states along them are good, and are
-- the states by components.
use Rattle.std.proofs.Common.{◌≡◌, ◌≤◌, ℕ, zero, suc, length, Some, ap, ◌∙◌, arith}
use Rattle.pgo_base.specs.Lookup.{Vars}
use Rattle.pgo_model.specs.Accounts.{EntriesMade, Fits}
use Rattle.pgo_model.specs.Choice.{Seeded, words_of}
use Rattle.pgo_model.specs.Core.{Settings, Reaches, rules_of}
use Rattle.pgo_model.specs.Entries.{AllLead, states_along}
use Rattle.pgo_model.specs.Log.{Effect, After, StateAt}
use Rattle.pgo_model.specs.Machine.{Finished, state_at}
use Rattle.pgo_model.specs.MachineLists.{nth_below}
use Rattle.pgo_model.specs.System.{System}
use Rattle.pgo_syntax.specs.declared.bound.Bound.{Bound}
use Rattle.pgo_meaning.specs.System.{system_of}
use Rattle.pgo_systems.specs.Premises.{IsGoodState, KeepsStates}
use Rattle.pgo_systems.proofs.Fitted.{StatesKept, entry_leads}
use Rattle.pgo_accounts.proofs.Entries.{nth_there}

module _ (b : Bound) (h : KeepsStates b) (kept : StatesKept) (settings : Settings) (fits : Fits (rules_of (system_of b) settings) (Reaches (system_of b)) (IsGoodState b)) (f : Finished Effect) (made : EntriesMade (rules_of (system_of b) settings) f) where
  abbrev y : System
  y = system_of b

  abbrev at : ℕ → Vars
  at n = state_at (rules_of y settings) y.start f.entries n

  pub good : (n : ℕ) → n ≤ length f.entries → IsGoodState b (at n)
  good zero le = fits.start
  good (suc n) le =
      let e = nth_there f.entries n le in let m = made n e.0 e.1 in
      fits.kept e.0.instance e.0.attempt (at n) (at (suc n)) m.prints (good n (omega (arith, le))) m.outcome

  leads : AllLead (rules_of y settings) y.start f.entries
  leads p e q =
      let m = made p e q in let n = nth_below f.entries p e q in
      ap (After (at p)) m.change
      ∙ entry_leads b h kept e.instance (words_of (Seeded settings.seed e.instance e.attempt)) (at p) (at (suc p)) m.prints (good p (omega (arith, n))) m.outcome

  pub states : (n : ℕ) → n ≤ length f.entries → StateAt y.start f.entries n ≡ Some (at n)
  states n le = states_along (rules_of y settings) y.start f.entries leads n le
