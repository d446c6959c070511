-- The values of each state along a run can be written.
use Rattle.std.proofs.Common.{true, ◌≡◌, ◌≤◌, ℕ, zero, suc, List, [], ◌∷◌, ◌++◌, map, length, Some, inl, inr, refl, sym, subst, arith}
use Rattle.std.specs.List.{flat_map}
use Rattle.pgo_base.specs.Data.{Data}
use Rattle.pgo_base.specs.Lookup.{Name, Vars, same_name}
use Rattle.pgo_model.specs.Accounts.{EntriesMade}
use Rattle.pgo_model.specs.Choice.{Seeded, words_of}
use Rattle.pgo_model.specs.Core.{Settings, rules_of}
use Rattle.pgo_model.specs.Log.{Effect}
use Rattle.pgo_model.specs.Machine.{Entry, Finished, Rules, nth, state_at}
use Rattle.pgo_model.specs.Names.{same_name-self}
use Rattle.pgo_model.specs.System.{System}
use Rattle.pgo_model.specs.Written.{pc}
use Rattle.pgo_syntax.specs.declared.bound.Bound.{Bound}
use Rattle.pgo_syntax.specs.declared.bound.Instance.{Instance}
use Rattle.pgo_syntax.specs.declared.spec.Spec.{Spec}
use Rattle.pgo_bound.specs.Among.{IsAmong, among_left, among_right}
use Rattle.pgo_bound.specs.BoundOf.{bound_of, first_places, global_value, globals_of, locals_of}
use Rattle.pgo_bound.specs.Instances.{instance_from}
use Rattle.pgo_bound.specs.Lookups.{data_from}
use Rattle.pgo_bound.specs.Runs.{runs_of}
use Rattle.pgo_bound.specs.State.{IsState, id_of}
use Rattle.pgo_bound.specs.Values.{defs_of}
use Rattle.pgo_meaning.specs.Attempt.{next_of_try}
use Rattle.pgo_meaning.specs.System.{system_of}
use Rattle.pgo_meaning.proofs.SystemStates.{states_same}
use Rattle.pgo_systems.specs.Premises.{AllAtLabels, IsGoodState, KeepsStates}
use Rattle.pgo_agrees.specs.Accepted.{IsOfText}
use Rattle.pgo_accounts.proofs.Steps.{Leads, leads_from}
use Rattle.pgo_accounts.proofs.Entries.{nth_there}
use Rattle.pgo_run_values.specs.Spellable.{AllLiteralsWritten, AllSpellable, IsSpellable, spellable}
use Rattle.pgo_systems.specs.StatementLiterals.{InstanceWithin}
use Rattle.pgo_accounts.proofs.InstanceLiterals.{text_fits}
use Rattle.pgo_run_values.proofs.Places.{label_bytes, places_spellable}
use Rattle.pgo_systems.proofs.StatementCode.{sections_fit}
use Rattle.pgo_systems.proofs.Starts.{definitions_fit, run_fits, start_within}
use Rattle.pgo_systems.proofs.States.{sect_within}

module _ (s : Spec) (consts : List (Name × Data)) (text : IsOfText s) (literals : AllLiteralsWritten s) (spelled : AllSpellable consts) (keeps : KeepsStates (bound_of s consts)) where
  abbrev b : Bound
  b = bound_of s consts

  abbrev y : System
  y = system_of b

  -- the identifiers of instances
  pub ids_spellable : (k : ℕ) (i : Instance) → nth b.instances k ≡ Some i → IsSpellable (id_of i)
  ids_spellable k i at_k =
      let f = instance_from s (runs_of s (defs_of s consts)) i k at_k in
      let run = run_fits spellable s consts spelled literals.start f.0 f.1 in
      subst (λ (z : Instance). IsSpellable (id_of z)) (sym f.2.2.1.1) (subst IsSpellable (sym (data_from f.2.0)) (run.ids f.2.0 f.2.1))

  places : (t : Vars) → IsState b t → AllAtLabels b t → (p : Name × Data) → IsAmong p t → same_name p.0 pc ≡ true → IsSpellable p.1
  places t is at = places_spellable b (label_bytes s consts text) ids_spellable keeps.sound.numbered.few_instances t is at keeps.differ

  pub start_all : AllSpellable b.start
  start_all =
      let ds = defs_of s consts in
      let rs = runs_of s ds in
      let front = map global_value (globals_of s ds rs) in
      let here : IsAmong (pc, first_places rs) b.start = among_left (pc, first_places rs) (front ++ ((pc, first_places rs) ∷ [])) (flat_map (locals_of ds) rs) (among_right (pc, first_places rs) front ((pc, first_places rs) ∷ []) (inl refl)) in
      start_within spellable s consts spelled literals.start (places b.start keeps.sound.start keeps.sound.labels (pc, first_places rs) here (same_name-self pc))

  written_in : (k : ℕ) (i : Instance) → nth b.instances k ≡ Some i → InstanceWithin spellable b i
  written_in k i at_k = record { definitions = definitions_fit spellable s consts spelled literals.start; sections = sections_fit spellable b i (text_fits spellable s consts literals k i at_k) }

  module _ (settings : Settings) (f : Finished Effect) where
    abbrev R : Rules Vars Effect
    R = rules_of y settings

    abbrev entries : List (Entry Effect)
    entries = f.entries

    abbrev at : ℕ → Vars
    at n = state_at R y.start entries n

    module _ (made : EntriesMade R f) (good : (n : ℕ) → n ≤ length entries → IsGoodState b (at n)) where
      is_state : (n : ℕ) → n ≤ length entries → IsState b (at n)
      is_state n le = ((states_same b (at n) keeps.sound keeps.globals).0 (good n le).state).state

      pub all_spellable : (n : ℕ) → n ≤ length entries → AllSpellable (at n)
      all_spellable zero le = start_all
      all_spellable (suc n) le =
          let e = nth_there entries n le in
          let by = made n e.0 e.1 in
          let led = next_of_try b e.0.instance (at n) (words_of (Seeded settings.seed e.0.instance e.0.attempt)) (at (suc n)) by.prints by.outcome in
          let words = led.0 in
          let x : Leads b e.0.instance (at n) (at (suc n)) words by.prints = leads_from b e.0.instance (at n) (at (suc n)) words by.prints led.1 in
          let low : n ≤ length entries = omega (arith, le) in
          sect_within spellable b e.0.instance x.instance (at n) words (at (suc n)) by.prints x.there (written_in e.0.instance x.instance x.there) (is_state n low) (all_spellable n low)
          (inr (places (at (suc n)) (is_state (suc n) le) (good (suc n) le).labels)) led.1
