-- A log changes the values of variables, and no variable comes, goes or moves.
use Rattle.std.proofs.Common.{◌≡◌, ℕ, zero, suc, List, [], ◌∷◌, refl, ap, sym, ◌∙◌}
use Rattle.std.specs.Prelude.{Bool, true, false, if◌then◌else◌, Option, Some, None, option_map, option_and_then}
use Rattle.pgo_base.specs.Data.{Data}
use Rattle.pgo_base.specs.Lookup.{Name, Vars, same_name, find}
use Rattle.pgo_model.specs.Log.{Change, Effect, After, StateAt, after_changes, changed, with_part}
use Rattle.pgo_model.specs.Machine.{Entry}
use Rattle.pgo_model.specs.Options.{on}
use Rattle.pgo_model.specs.Steps.{place_in}
use Rattle.pgo_model.specs.Variables.{store}
use Rattle.pgo_model.proofs.Places.{place_none}
use Rattle.pgo_check.specs.Assigned.{HasVariablesOf}
use Rattle.pgo_check.proofs.Reached.{some_is, went}

-- each variable stands where it stood
abbrev pub StandAlike : Vars → Vars → Type 0
StandAlike s t = (x : Name) → place_in x t ≡ place_in x s

stored : (y : Name) (v : Data) (s : Vars) → StandAlike s (store y v s)
stored y v [] x = refl
stored y v (p ∷ s) x = go (same_name y p.0) (stored y v s x)
  where
    go : (b : Bool) → place_in x (store y v s) ≡ place_in x s → place_in x (if b then (p.0, v) ∷ s else p ∷ store y v s) ≡ (if same_name x p.0 then Some 0 else option_map suc (place_in x s))
    go true ih = refl
    go false ih = ap (λ o. if same_name x p.0 then Some 0 else option_map suc o) ih

-- the same of a state that is given as an option
stored_as : (y : Name) (v : Data) (s t : Vars) → Some (store y v s) ≡ Some t → StandAlike s t
stored_as y v s t h x = ap (place_in x) (sym (some_is (store y v s) t h)) ∙ stored y v s x

pub changed_alike : (c : Change) (s t : Vars) → changed c s ≡ Some t → StandAlike s t
changed_alike c s t h = go (find c.component.variable s) c.component.index h
  where
    part : (o : Option Data) → option_map (λ f. store c.component.variable f s) o ≡ Some t → StandAlike s t
    part None h = absurd (cc)
    part (Some f) h = stored_as c.component.variable f s t h

    go : (o index : Option Data) → option_and_then (λ old. on (Some (store c.component.variable c.value s)) index (λ i. option_map (λ f. store c.component.variable f s) (with_part old i c.value))) o ≡ Some t → StandAlike s t
    go None index h = absurd (cc)
    go (Some old) None h = stored_as c.component.variable c.value s t h
    go (Some old) (Some i) h = part (with_part old i c.value) h

changes_alike : (cs : List Change) (s t : Vars) → after_changes cs s ≡ Some t → StandAlike s t
changes_alike [] s t h = λ x. ap (place_in x) (sym (some_is s t h))
changes_alike (c ∷ cs) s t h = go (changed c s) refl h (λ u. changes_alike cs u t)
  where
    go : (o : Option Vars) → changed c s ≡ o → option_and_then (after_changes cs) o ≡ Some t → ((u : Vars) → after_changes cs u ≡ Some t → StandAlike u t) → StandAlike s t
    go None e h ih = absurd (cc)
    go (Some u) e h ih = λ x. ih u h x ∙ changed_alike c s u e x

pub after_alike : (e : Effect) (s t : Vars) → After s e ≡ Some t → StandAlike s t
after_alike e s t h = changes_alike e.changes s t (went s e t h)

-- behind some entries each variable stands where it stood at the start
pub reached_alike : (n : ℕ) (l : List (Entry Effect)) (s t : Vars) → StateAt s l n ≡ Some t → StandAlike s t
reached_alike zero l s t h = λ x. ap (place_in x) (sym (some_is s t h))
reached_alike (suc n) [] s t h = absurd (cc)
reached_alike (suc n) (e ∷ l) s t h = go (After s e.change) refl h (λ u. reached_alike n l u t)
  where
    go : (o : Option Vars) → After s e.change ≡ o → option_and_then (λ u. StateAt u l n) o ≡ Some t → ((u : Vars) → StateAt u l n ≡ Some t → StandAlike u t) → StandAlike s t
    go None g h ih = absurd (cc)
    go (Some u) g h ih = λ x. ih u h x ∙ after_alike e.change s u g x

-- a variable that is none has no place
none_placed : (x : Name) (s : Vars) → find x s ≡ None → place_in x s ≡ None
none_placed x [] h = refl
none_placed x (p ∷ s) h = go (same_name x p.0) h (none_placed x s)
  where
    go : (b : Bool) → (if b then Some p.1 else find x s) ≡ None → (find x s ≡ None → place_in x s ≡ None) → (if b then Some 0 else option_map suc (place_in x s)) ≡ None
    go true h ih = absurd (cc)
    go false h ih = ap (option_map suc) (ih h)

pub same_variables : (s t : Vars) → StandAlike s t → HasVariablesOf s t
same_variables s t a x h = place_none x t (a x ∙ none_placed x s h)
