-- The place of a variable in a state.
use Rattle.std.proofs.Common.{◌≡◌, ℕ, zero, suc, List, [], ◌∷◌, map, get_or, set, refl, ap, sym, ◌∙◌, arith}
use Rattle.std.specs.Prelude.{Bool, true, false, if◌then◌else◌, Option, Some, None, option_map}
use Rattle.pgo_base.specs.declared.value.Value.{Value}
use Rattle.pgo_base.specs.Lookup.{Name, Vars, same_name, find}
use Rattle.pgo_base.specs.View.{data_of, named_data}
use Rattle.pgo_model.specs.Variables.{store}
use Rattle.pgo_model.specs.Steps.{place_in}

-- a variable without a place is none
pub place_none : (x : Name) (s : Vars) → place_in x s ≡ None → find x s ≡ None
place_none x [] h = refl
place_none x (p ∷ s) h = go (same_name x p.0) (place_in x s) refl h (place_none x s)
  where
    go : (b : Bool) (o : Option ℕ) → place_in x s ≡ o → (if b then Some 0 else option_map suc o) ≡ None → (place_in x s ≡ None → find x s ≡ None) → (if b then Some p.1 else find x s) ≡ None
    go true o e g ih = absurd (cc)
    go false None e g ih = ih e
    go false (Some n) e g ih = absurd (cc)

abbrev pub At : Name → List (Name × Value) → ℕ → (Name × Value) → Type 0
At x s i p = (find x (map named_data s) ≡ Some (data_of p.1)) × ((v : Value) → store x (data_of v) (map named_data s) ≡ map named_data (set s i (p.0, v)))

-- what stands at the place of a variable is its value, and the variable is stored there
pub placed_at : (x : Name) (s : List (Name × Value)) (i : ℕ) (p : Name × Value) → place_in x (map named_data s) ≡ Some i → p ≡ get_or s i p → At x s i p
placed_at x [] i p h e = absurd (cc)
placed_at x (q ∷ s) zero p h e = go (same_name x q.0) refl (place_in x (map named_data s)) h
  where
    go : (b : Bool) → same_name x q.0 ≡ b → (o : Option ℕ) → (if b then Some 0 else option_map suc o) ≡ Some 0 → At x (q ∷ s) 0 p
    go true t o g = (
      ap (λ (b : Bool). if b then Some (data_of q.1) else find x (map named_data s)) t ∙ ap (λ (r : Name × Value). Some (data_of r.1)) (sym e),
      λ v. ap (λ (b : Bool). if b then (q.0, data_of v) ∷ map named_data s else named_data q ∷ store x (data_of v) (map named_data s)) t ∙ ap (λ (r : Name × Value). (r.0, data_of v) ∷ map named_data s) (sym e),
    )
    go false t None g = absurd (cc)
    go false t (Some n) g = absurd (let k : suc n ≡ 0 = cc in omega arith)
placed_at x (q ∷ s) (suc i) p h e = go (same_name x q.0) refl (place_in x (map named_data s)) refl h (λ g. placed_at x s i p g e)
  where
    go : (b : Bool) → same_name x q.0 ≡ b → (o : Option ℕ) → place_in x (map named_data s) ≡ o → (if b then Some 0 else option_map suc o) ≡ Some (suc i) → (place_in x (map named_data s) ≡ Some i → At x s i p) → At x (q ∷ s) (suc i) p
    go true t o k g ih = absurd (let n : 0 ≡ suc i = cc in omega arith)
    go false t None k g ih = absurd (cc)
    go false t (Some n) k g ih =
        let m : n ≡ i = (let z : suc n ≡ suc i = cc in omega arith) in
        let r = ih (k ∙ ap Some m) in (
          ap (λ (b : Bool). if b then Some (data_of q.1) else find x (map named_data s)) t ∙ r.0,
          λ v. ap (λ (b : Bool). if b then (q.0, data_of v) ∷ map named_data s else named_data q ∷ store x (data_of v) (map named_data s)) t ∙ ap (λ l. named_data q ∷ l) (r.1 v),
        )
