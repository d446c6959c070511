-- Along a journal whose changes are all there, its states by components are the machine's states; the journals of the machine
-- are such.
use Rattle.std.proofs.Common.{◌≡◌, ◌≤◌, ℕ, zero, suc, List, [], ◌∷◌, length, Option, Some, None, refl, subst, ap, ◌∙◌, arith}
use Rattle.std.specs.Prelude.{if◌then◌else◌, option_and_then, unwrap_or}
use Rattle.pgo_base.specs.Data.{Data}
use Rattle.pgo_base.specs.Lookup.{Vars}
use Rattle.pgo_base.specs.Exact.{data_itself}
use Rattle.std.specs.Ordering.{is_eq}
use Rattle.pgo_model.specs.Options.{on}
use Rattle.pgo_model.specs.System.{System}
use Rattle.pgo_model.specs.SystemState.{IsSystemState}
use Rattle.pgo_model.specs.Log.{Component, Effect, After, StateAt, content, differs, changes_between, components_of, are_in, after_changes, effect_between}
use Rattle.pgo_model.specs.Machine.{Rules, Entry, nth, state_at}
use Rattle.pgo_model.specs.MachineLists.{nth_below}
use Rattle.pgo_model.specs.MachineLaw.{run_turns_good}
use Rattle.pgo_model.specs.MachineRuns.{run_turns_entries}
use Rattle.pgo_model.specs.SystemFits.{SystemFits}
use Rattle.pgo_model.specs.Core.{Settings, Core, Reaches, rules_of}

-- each entry of the journal leads from the state before it to the state after it
abbrev pub AllLead : Rules Vars Effect → Vars → List (Entry Effect) → Type 0
AllLead R s l = (p : ℕ) (e : Entry Effect) → nth l p ≡ Some e → After (state_at R s l p) e.change ≡ Some (state_at R s l (suc p))

-- along such a journal, from any state, under any rules
pub states_along : (R : Rules Vars Effect) (s : Vars) (l : List (Entry Effect)) → AllLead R s l → (n : ℕ) → n ≤ length l → StateAt s l n ≡ Some (state_at R s l n)
states_along R s l h zero b = refl
states_along R s [] h (suc n) b = absurd (omega (arith, b))
states_along R s (e ∷ l) h (suc n) b =
    ap (λ o. option_and_then (λ t. StateAt t l n) o) (h zero e refl)
    ∙ states_along R (R.patched s e.change) l (λ p d q. h (suc p) d q) n (let q : n ≤ length l = omega (arith, b) in q)

-- nothing differs between a state and itself
no_changes : (cs : List Component) (s : Vars) → changes_between cs s s ≡ []
no_changes [] s = refl
no_changes (c ∷ cs) s = go (content c s) (no_changes cs s)
  where
    go : (o : Option Data) → changes_between cs s s ≡ []
        → on (changes_between cs s s) o (λ v. if differs o o then record { component = c; value = v } ∷ changes_between cs s s else changes_between cs s s) ≡ []
    go None h = h
    go (Some v) h = rw (ap is_eq (data_itself v)) h

-- what an entry records leads to the end of the step where `patched` does: were its changes not there, the end would be the
-- state before it, and there would be no change
record_leads : (y : System) (k : ℕ) (s t : Vars) (ps : List Data) → unwrap_or (After s (effect_between y k s t ps)) s ≡ t → After s (effect_between y k s t ps) ≡ Some t
record_leads y k s t ps h = go (After s (effect_between y k s t ps)) refl h
  where
    still : s ≡ t → After s (effect_between y k s t ps) ≡ Some t
    still e =
        subst (λ t. After s (effect_between y k s t ps) ≡ Some t) e
        (ap (λ l. if are_in l s then after_changes l s else None) (no_changes (components_of y) s))

    go : (o : Option Vars) → After s (effect_between y k s t ps) ≡ o → unwrap_or o s ≡ t → After s (effect_between y k s t ps) ≡ Some t
    go None e h = still h
    go (Some u) e h = e ∙ ap Some h

module _ (y : System) (settings : Settings) (fits : SystemFits y settings) (turns : List ℕ) where
  abbrev entries : List (Entry Effect)
  entries = (Core y settings turns).entries

  abbrev at : ℕ → Vars
  at n = state_at (rules_of y settings) y.start entries n

  -- each entry of the machine's journal leads from the state before it to the state after it
  pub run_leads : AllLead (rules_of y settings) y.start entries
  run_leads p e h =
      let made = run_turns_entries (rules_of y settings) (Reaches y) (IsSystemState y) fits.rules turns p e h in
      let b = nth_below entries p e h in
      let good : IsSystemState y (at p) = run_turns_good (rules_of y settings) (Reaches y) (IsSystemState y) fits.rules turns p (omega (arith, b)) in
      ap (After (at p)) made.change
      ∙ record_leads y e.instance (at p) (at (suc p)) made.prints (fits.rules.patches e.instance e.attempt (at p) (at (suc p)) made.prints good made.outcome)

  -- so its states by components are the machine's
  pub run_states : (n : ℕ) → n ≤ length entries → StateAt y.start entries n ≡ Some (at n)
  run_states n le = states_along (rules_of y settings) y.start entries run_leads n le
