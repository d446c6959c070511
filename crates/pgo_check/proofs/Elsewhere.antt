-- Elsewhere than at the places that changes touch a state stays as it is.
use Rattle.std.proofs.Common.{◌≡◌, ℕ, zero, suc, List, [], ◌∷◌, set, slice_get, refl, ap, sym, ◌∙◌, subst, arith}
use Rattle.std.specs.Prelude.{Bool, true, false, if◌then◌else◌, Option, Some, None, option_map, option_and_then}
use Rattle.pgo_base.specs.Data.{Data}
use Rattle.pgo_base.specs.Lookup.{Name, Vars, same_name, find}
use Rattle.pgo_base.specs.SameName.{same_name-is}
use Rattle.pgo_base.specs.States.{first_place, AreAlike}
use Rattle.pgo_base.specs.NameMaps.{found}
use Rattle.pgo_base.specs.declared.name_map.NameMap.{NameMap}
use Rattle.pgo_model.specs.Log.{Change, after_changes, changed, with_part}
use Rattle.pgo_model.specs.Options.{on}
use Rattle.pgo_model.specs.Steps.{place_in}
use Rattle.pgo_model.specs.Variables.{store}
use Rattle.pgo_check.specs.Elsewhere.{noted, noted_all}
use Rattle.pgo_check.specs.Placed.{ArePlaces}
use Rattle.pgo_check.proofs.Kept.{StandAlike, changed_alike}
use Rattle.pgo_check.proofs.Reached.{some_is}

-- no change touches the variable at this place
abbrev pub IsElsewhere : Vars → List Change → ℕ → Type 0
IsElsewhere s [] i = Unit {0}
IsElsewhere s (c ∷ cs) i = (place_in c.component.variable s ≡ Some i → ⊥) × IsElsewhere s cs i

-- what is kept after one place was noted is another, and was kept
apart_at : (j : ℕ) (l : List Bool) (i : ℕ) → slice_get (set l j false) i ≡ Some true → (Some j ≡ Some i → ⊥) × (slice_get l i ≡ Some true)
apart_at j [] i h = absurd (cc)
apart_at zero (b ∷ l) zero h = absurd (cc)
apart_at zero (b ∷ l) (suc i) h = (λ e. absurd (let k : 0 ≡ suc i = cc in omega arith), h)
apart_at (suc j) (b ∷ l) zero h = (λ e. absurd (let k : suc j ≡ 0 = cc in omega arith), h)
apart_at (suc j) (b ∷ l) (suc i) h =
    let r = apart_at j l i h in
    (λ e. r.0 (let k : suc j ≡ suc i = cc in let m : j ≡ i = omega (arith, k) in ap Some m), r.1)

apart : (o : Option ℕ) (l : List Bool) (i : ℕ) → slice_get (noted false o l) i ≡ Some true → (o ≡ Some i → ⊥) × (slice_get l i ≡ Some true)
apart None l i h = (λ e. absurd (cc), h)
apart (Some j) l i h = apart_at j l i h

elsewhere : (s : Vars) (places : NameMap ℕ) (cs : List Change) (l : List Bool) (i : ℕ) → ArePlaces s places → slice_get (noted_all false places cs l) i ≡ Some true → IsElsewhere s cs i × (slice_get l i ≡ Some true)
elsewhere s places [] l i p h = (tt, h)
elsewhere s places (c ∷ cs) l i p h =
    let o = found places c.component.variable in
    let r = elsewhere s places cs (noted false o l) i p h in
    let a = apart o l i r.1 in
    ((λ e. a.0 (p c.component.variable ∙ e), r.0), a.1)

-- one variable stored leaves the others
find_other : (y x : Name) (v : Data) (s : Vars) → same_name x y ≡ false → find x (store y v s) ≡ find x s
find_other y x v [] n = refl
find_other y x v (p ∷ s) n = go (same_name y p.0) refl (find_other y x v s n)
  where
    go : (b : Bool) → same_name y p.0 ≡ b → find x (store y v s) ≡ find x s → find x (if b then (p.0, v) ∷ s else p ∷ store y v s) ≡ (if same_name x p.0 then Some p.1 else find x s)
    go true e r =
        let f : same_name x p.0 ≡ false = subst (λ z. same_name x z ≡ false) (same_name-is y p.0 e) n in
        ap (λ b. if b then Some v else find x s) f ∙ sym (ap (λ b. if b then Some p.1 else find x s) f)
    go false e r = ap (λ o. if same_name x p.0 then Some p.1 else o) r

stored_other : (y x : Name) (v : Data) (s t : Vars) → same_name x y ≡ false → Some (store y v s) ≡ Some t → find x t ≡ find x s
stored_other y x v s t n h = ap (find x) (sym (some_is (store y v s) t h)) ∙ find_other y x v s n

changed_other : (c : Change) (x : Name) (s t : Vars) → same_name x c.component.variable ≡ false → changed c s ≡ Some t → find x t ≡ find x s
changed_other c x s t n h = go (find c.component.variable s) c.component.index h
  where
    part : (o : Option Data) → option_map (λ f. store c.component.variable f s) o ≡ Some t → find x t ≡ find x s
    part None h = absurd (cc)
    part (Some f) h = stored_other c.component.variable x f s t n h

    go : (o index : Option Data) → option_and_then (λ old. on (Some (store c.component.variable c.value s)) index (λ i. option_map (λ f. store c.component.variable f s) (with_part old i c.value))) o ≡ Some t → find x t ≡ find x s
    go None index h = absurd (cc)
    go (Some old) None h = stored_other c.component.variable x c.value s t n h
    go (Some old) (Some i) h = part (with_part old i c.value) h

-- a place that no change touches is none of theirs in a state whose variables stand alike
moved : (s u : Vars) (cs : List Change) (i : ℕ) → StandAlike s u → IsElsewhere s cs i → IsElsewhere u cs i
moved s u [] i a w = tt
moved s u (c ∷ cs) i a w = (λ h. w.0 (sym (a c.component.variable) ∙ h), moved s u cs i a w.1)

value_kept : (cs : List Change) (x : Name) (s t : Vars) (i : ℕ) → IsElsewhere s cs i → place_in x s ≡ Some i → after_changes cs s ≡ Some t → find x t ≡ find x s
value_kept [] x s t i w p h = ap (find x) (sym (some_is s t h))
value_kept (c ∷ cs) x s t i w p h = go (changed c s) refl h (λ u. value_kept cs x u t i)
  where
    other : (b : Bool) → same_name x c.component.variable ≡ b → b ≡ false
    other true e = absurd (w.0 (ap (λ z. place_in z s) (sym (same_name-is x c.component.variable e)) ∙ p))
    other false e = refl

    go : (o : Option Vars) → changed c s ≡ o → option_and_then (after_changes cs) o ≡ Some t → ((u : Vars) → IsElsewhere u cs i → place_in x u ≡ Some i → after_changes cs u ≡ Some t → find x t ≡ find x u) → find x t ≡ find x s
    go None e h ih = absurd (cc)
    go (Some u) e h ih =
        let a = changed_alike c s u e in
        ih u (moved s u cs i a w.1) (a x ∙ p) h ∙ changed_other c x s u (other (same_name x c.component.variable) refl) e

first_is : (x : Name) (s : Vars) → first_place x s ≡ place_in x s
first_is x [] = refl
first_is x (p ∷ s) = ap (λ o. if same_name x p.0 then Some 0 else option_map suc o) (first_is x s)

-- where the places that changes touch are noted, the states before and behind them are alike at what is kept
pub alike : (s t : Vars) (places : NameMap ℕ) (cs : List Change) (l : List Bool) → ArePlaces s places → after_changes cs s ≡ Some t → AreAlike s (Some t) (noted_all false places cs l)
alike s t places cs l p h u e i x k f =
    ap (find x) (sym (some_is t u e))
    ∙ value_kept cs x s t i (elsewhere s places cs l i p k).0 (sym (first_is x s) ∙ f) h
