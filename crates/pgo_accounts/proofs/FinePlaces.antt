-- A section of one instance leaves the places of all others, so the status is 0 exactly where each instance is at Done.
use Rattle.std.proofs.Common.{◌≡◌, ◌↔◌, ℕ, zero, suc, Bool, true, false, List, [], ◌∷◌, length, map, Option, Some, None, refl, sym, ap, ◌∙◌, arith}
use Rattle.std.specs.Prelude.{◌⊎◌}
use Rattle.pgo_base.specs.Data.{Data, string}
use Rattle.pgo_base.specs.Lookup.{Vars, find}
use Rattle.pgo_model.specs.Accounts.{Fits}
use Rattle.pgo_model.specs.Choice.{Seeded, words_of}
use Rattle.pgo_model.specs.Core.{Core, Reaches, Settings, is_at_done, is_place, rules_of, status_of}
use Rattle.pgo_model.specs.Log.{Effect}
use Rattle.pgo_model.specs.Machine.{Finished, Rules, finished_of, last_ends, last_state, nth, state_at}
use Rattle.pgo_model.specs.Operators.{same_data}
use Rattle.pgo_model.specs.Options.{on}
use Rattle.pgo_model.specs.Outcome.{Next}
use Rattle.pgo_model.specs.System.{Member, System, Words}
use Rattle.pgo_model.specs.Variables.{place_of}
use Rattle.pgo_model.specs.Written.{pc, done}
use Rattle.pgo_syntax.specs.declared.bound.Bound.{Bound}
use Rattle.pgo_syntax.specs.declared.bound.Instance.{Instance}
use Rattle.pgo_bound.specs.Among.{nth_map}
use Rattle.pgo_bound.specs.Declares.{value_in}
use Rattle.pgo_bound.specs.Lookups.{same_of}
use Rattle.pgo_bound.specs.Sound.{IsLabel}
use Rattle.pgo_bound.specs.State.{IsState, id_of, identifiers}
use Rattle.pgo_meaning.specs.Attempt.{next_of_try}
use Rattle.pgo_meaning.specs.Sect.{context_of, Sect}
use Rattle.pgo_meaning.specs.System.{member_of, system_of}
use Rattle.pgo_meaning.proofs.SystemStates.{states_same}
use Rattle.pgo_systems.specs.Premises.{IsGoodState, KeepsStates}
use Rattle.pgo_systems.proofs.Jumping.{EndsAt, section_jumps}
use Rattle.pgo_systems.proofs.States.{from_label, identifier_there}
use Rattle.pgo_accounts.proofs.FineMachine.{LeavesOthers, ended_undone}
use Rattle.pgo_accounts.proofs.FineStatus.{zero_is_done, done_is_zero}
use Rattle.pgo_accounts.proofs.Steps.{Leads, leads_from}
use Rattle.pgo_accounts.proofs.Entries.{place_same}

module _ (b : Bound) (keeps : KeepsStates b) (settings : Settings) where
  abbrev y : System
  y = system_of b

  abbrev R : Rules Vars Effect
  R = rules_of y settings

  done_at : (j : ℕ) (i : Instance) (s : Vars) → nth b.instances j ≡ Some i → is_at_done y j s ≡ is_place done (value_in s pc (id_of i))
  done_at j i s at_j =
      ap (λ o. on false o (λ (m : Member). is_place done (place_of m.id s))) (nth_map member_of j b.instances i at_j)
      ∙ ap (is_place done) (place_same (find pc s) (id_of i))

  no_member : (is : List Instance) (j : ℕ) → nth is j ≡ None → nth (map member_of is) j ≡ None
  no_member [] j e = refl
  no_member (i ∷ is) zero e = absurd (grind (arith, e))
  no_member (i ∷ is) (suc j) e = no_member is j e

  module _ (k : ℕ) (s t : Vars) (d : Words) (prints : List Data) (good : IsGoodState b s) (e : (Sect b k s d).end ≡ Next t prints) where
    is_state : IsState b s
    is_state = ((states_same b s keeps.sound keeps.globals).0 good.state).state

    module _ (i : Instance) (at_k : nth b.instances k ≡ Some i) where
      ends_at : EndsAt (context_of b i s) (λ m. (m ≡ done) ⊎ IsLabel i m) t
      ends_at =
          let f = from_label b k i s d t prints at_k e in
          section_jumps (λ m. (m ≡ done) ⊎ IsLabel i m) (context_of b i s) (identifiers b) is_state.places (identifier_there b k i at_k) f.code d t prints (keeps.ends k i at_k f.label f.code f.there) f.ends

      stays : (j : ℕ) (n : Instance) → nth b.instances j ≡ Some n → (j ≡ k → ⊥) → value_in t pc (id_of n) ≡ value_in s pc (id_of n)
      stays j n at_j ne = go (same_data (id_of n) (id_of i)) refl
        where
          go : (c : Bool) → same_data (id_of n) (id_of i) ≡ c → value_in t pc (id_of n) ≡ value_in s pc (id_of n)
          go true q = absurd (ne (keeps.sound.numbered.identifiers_differ j k n i at_j at_k (same_of (id_of n) (id_of i) q)))
          go false q = ends_at.elsewhere (id_of n) q

    at_done_stays : (j : ℕ) → (j ≡ k → ⊥) → is_at_done y j s ≡ false → is_at_done y j t ≡ false
    at_done_stays j ne h = go (nth b.instances j) refl
      where
        go : (o : Option Instance) → nth b.instances j ≡ o → is_at_done y j t ≡ false
        go None q = ap (λ o. on false o (λ (m : Member). is_place done (place_of m.id t))) (no_member b.instances j q)
        go (Some n) q =
            let l : Leads b k s t d prints = leads_from b k s t d prints e in
            done_at j n t q ∙ ap (is_place done) (stays l.instance l.there j n q ne) ∙ sym (done_at j n s q) ∙ h

  leaves : LeavesOthers R (IsGoodState b)
  leaves k a s t prints good e j ne h = let q = next_of_try b k s (words_of (Seeded settings.seed k a)) t prints e in at_done_stays k s t q.0 prints good q.1 j ne h

  -- the status is 0 exactly where each instance is at Done in the last state, if none is that its last record ends
  pub fine_by : (f : Finished Effect) → ((k : ℕ) → last_ends (f.records k) ≡ true → is_at_done y k (state_at R y.start f.entries (length f.entries)) ≡ false)
      → (status_of y settings f ≡ 0) ↔ ((n : ℕ) (i : Member) → nth y.members n ≡ Some i → place_of i.id (state_at R y.start f.entries (length f.entries)) ≡ Some (string done))
  fine_by f undone = (zero_is_done y settings f, done_is_zero y settings f undone)

  pub fine : Fits R (Reaches y) (IsGoodState b) → (turns : List ℕ)
      → (status_of y settings (finished_of (Core y settings turns)) ≡ 0) ↔ ((n : ℕ) (i : Member) → nth y.members n ≡ Some i → place_of i.id (last_state R (Core y settings turns)) ≡ Some (string done))
  fine fits turns =
      let f = finished_of (Core y settings turns) in (
        zero_is_done y settings f,
        done_is_zero y settings f (ended_undone R (Reaches y) (IsGoodState b) fits leaves turns),
      )
