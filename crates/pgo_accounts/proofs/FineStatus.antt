-- The status 0, by where the instances are and how their last records end them.
use Rattle.std.proofs.Common.{◌≡◌, ℕ, zero, suc, ◌+◌, Bool, true, false, List, [], ◌∷◌, length, Option, Some, None, refl, sym, ap, ◌∙◌, arith}
use Rattle.std.specs.Prelude.{if◌then◌else◌}
use Rattle.std.proofs.lemmas.Bool.{and_parts, and_from}
use Rattle.pgo_base.specs.Data.{string}
use Rattle.pgo_base.specs.Lookup.{Vars}
use Rattle.pgo_model.specs.Core.{Settings, End, are_at_done, are_blocked, end_by, has_full, has_stopped, is_at_done, is_place, last_ends_from, rules_of, status_of}
use Rattle.pgo_model.specs.Log.{Effect}
use Rattle.pgo_model.specs.Machine.{Finished, Record, Step, Noted, Held, Down, Full, last_ends, nth, state_at}
use Rattle.pgo_model.specs.Names.{same_name-self}
use Rattle.pgo_model.specs.Options.{on}
use Rattle.pgo_model.specs.Outcome.{Blocked, NoValue, AssertFails, Many}
use Rattle.pgo_model.specs.System.{Member, System}
use Rattle.pgo_model.specs.Variables.{place_of}
use Rattle.pgo_model.specs.Written.{done}
use Rattle.pgo_runnable.proofs.Workers.{at_done}

-- what the last record says does not depend on those before it
pub goes_past : (y z : Record) (l : List Record) → (end_by (y ∷ (z ∷ l)) ≡ end_by (z ∷ l)) × (last_ends (y ∷ (z ∷ l)) ≡ last_ends (z ∷ l))
goes_past (Step n) z l = (refl, refl)
goes_past (Noted Blocked p) z l = (refl, refl)
goes_past (Noted NoValue p) z l = (refl, refl)
goes_past (Noted AssertFails p) z l = (refl, refl)
goes_past (Noted Many p) z l = (refl, refl)
goes_past (Held r h) z l = (refl, refl)
goes_past (Down r o) z l = (refl, refl)
goes_past (Full n) z l = (refl, refl)

one_ends : (x : Record) → last_ends (x ∷ []) ≡ false → end_by (x ∷ []) ≡ None
one_ends (Step n) e = refl
one_ends (Noted Blocked p) e = refl
one_ends (Noted NoValue p) e = absurd (grind (arith, e))
one_ends (Noted AssertFails p) e = absurd (grind (arith, e))
one_ends (Noted Many p) e = refl
one_ends (Held r h) e = refl
one_ends (Down r o) e = refl
one_ends (Full n) e = absurd (grind (arith, e))

-- a last record that doesn't end its instance shows no end
no_end : (l : List Record) → last_ends l ≡ false → end_by l ≡ None
no_end [] e = refl
no_end (x ∷ []) e = one_ends x e
no_end (x ∷ (z ∷ l)) e = let p = goes_past x z l in p.0 ∙ no_end (z ∷ l) (sym p.1 ∙ e)

-- an end that is none has neither stopped its instance nor found the journal full
passes : (o : Option End) (es : List (Option End)) → o ≡ None → (has_stopped (o ∷ es) ≡ has_stopped es) × (has_full (o ∷ es) ≡ has_full es)
passes None es e = (refl, refl)
passes (Some x) es e = absurd (grind (arith, e))

-- the status, by whether an instance has stopped, one found the journal full, all are at Done, and all others are blocked
abbrev status_by : Bool → Bool → Bool → Bool → ℕ
status_by a b c d = if a then 20 else if b then 23 else if c then 0 else if d then 22 else 21

zero_status : (a b c d : Bool) → status_by a b c d ≡ 0 → c ≡ true
zero_status true b c d h = absurd (omega (arith, h))
zero_status false true c d h = absurd (omega (arith, h))
zero_status false false true d h = refl
zero_status false false false true h = absurd (omega (arith, h))
zero_status false false false false h = absurd (omega (arith, h))

status_zero : (a b c d : Bool) → a ≡ false → b ≡ false → c ≡ true → status_by a b c d ≡ 0
status_zero true b c d p q r = absurd (grind (arith, p))
status_zero false true c d p q r = absurd (grind (arith, q))
status_zero false false true d p q r = refl
status_zero false false false d p q r = absurd (grind (arith, r))

module _ (y : System) (settings : Settings) (f : Finished Effect) where
  abbrev last : Vars
  last = state_at (rules_of y settings) y.start f.entries (length f.entries)

  -- where a member is
  here : (n : ℕ) (i : Member) → nth y.members n ≡ Some i → is_at_done y n last ≡ is_place done (place_of i.id last)
  here n i e = ap (λ o. on false o (λ (i : Member). is_place done (place_of i.id last))) e

  each_done : (k : ℕ) (is : List Member) → are_at_done y last k is ≡ true → (n j : ℕ) (i : Member) → nth is n ≡ Some i → j ≡ n + k → is_at_done y j last ≡ true
  each_done k [] h n j i e at = absurd (grind (arith, e))
  each_done k (x ∷ is) h zero j i e at =
      let at_k : j ≡ k = omega (arith, at) in ap (λ j. is_at_done y j last) at_k ∙ (and_parts (is_at_done y k last) (are_at_done y last (suc k) is) h).0
  each_done k (x ∷ is) h (suc n) j i e at =
      each_done (suc k) is (and_parts (is_at_done y k last) (are_at_done y last (suc k) is) h).1 n j i e (omega (arith, at))

  all_done : (k : ℕ) (is : List Member) → ((n j : ℕ) (i : Member) → nth is n ≡ Some i → j ≡ n + k → is_at_done y j last ≡ true) → are_at_done y last k is ≡ true
  all_done k [] h = refl
  all_done k (x ∷ is) h =
      and_from (is_at_done y k last) (are_at_done y last (suc k) is) (h 0 k x refl (omega arith)) (all_done (suc k) is (λ n j i e at. h (suc n) j i e (omega (arith, at))))

  none_ends : (k : ℕ) (is : List Member) → ((n j : ℕ) (i : Member) → nth is n ≡ Some i → j ≡ n + k → end_by (f.records j) ≡ None)
      → (has_stopped (last_ends_from f k is) ≡ false) × (has_full (last_ends_from f k is) ≡ false)
  none_ends k [] h = (refl, refl)
  none_ends k (x ∷ is) h =
      let p = passes (end_by (f.records k)) (last_ends_from f (suc k) is) (h 0 k x refl (omega arith)) in
      let q = none_ends (suc k) is (λ n j i e at. h (suc n) j i e (omega (arith, at))) in (p.0 ∙ q.0, p.1 ∙ q.1)

  -- of the status 0 each instance is at Done
  pub zero_is_done : status_of y settings f ≡ 0 → (n : ℕ) (i : Member) → nth y.members n ≡ Some i → place_of i.id last ≡ Some (string done)
  zero_is_done h n i e =
      let all = zero_status (has_stopped (last_ends_from f 0 y.members)) (has_full (last_ends_from f 0 y.members)) (are_at_done y last 0 y.members) (are_blocked y last 0 y.members) h in
      at_done (place_of i.id last) (sym (here n i e) ∙ each_done 0 y.members all n n i e (omega arith))

  -- where each is at Done, and no instance whose last record ends it is, the status is 0
  pub done_is_zero : ((k : ℕ) → last_ends (f.records k) ≡ true → is_at_done y k last ≡ false) → ((n : ℕ) (i : Member) → nth y.members n ≡ Some i → place_of i.id last ≡ Some (string done)) → status_of y settings f ≡ 0
  done_is_zero undone all =
      let ends = none_ends 0 y.members (λ n j i e at. no_end (f.records j) (goes_on n j i e at (last_ends (f.records j)) refl)) in
      status_zero (has_stopped (last_ends_from f 0 y.members)) (has_full (last_ends_from f 0 y.members)) (are_at_done y last 0 y.members) (are_blocked y last 0 y.members) ends.0 ends.1 (all_done 0 y.members there)
    where
      there : (n j : ℕ) (i : Member) → nth y.members n ≡ Some i → j ≡ n + 0 → is_at_done y j last ≡ true
      there n j i e at =
          let same : j ≡ n = omega (arith, at) in ap (λ j. is_at_done y j last) same ∙ here n i e ∙ ap (is_place done) (all n i e) ∙ same_name-self done

      goes_on : (n j : ℕ) (i : Member) → nth y.members n ≡ Some i → j ≡ n + 0 → (b : Bool) → last_ends (f.records j) ≡ b → b ≡ false
      goes_on n j i e at false q = refl
      goes_on n j i e at true q = absurd (let z : false ≡ true = sym (undone j q) ∙ there n j i e at in grind (arith, z))
