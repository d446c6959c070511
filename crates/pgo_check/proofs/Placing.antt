-- The places of variables, as they are found and as a log keeps them.
use Rattle.std.proofs.Common.{◌≡◌, ℕ, suc, ◌<◌, [], ◌∷◌, ◌++◌, length, refl, ap, sym, ◌∙◌, arith}
use Rattle.std.specs.Prelude.{Bool, true, false, if◌then◌else◌, Option, Some, None, option_map}
use Rattle.pgo_base.specs.Data.{Data}
use Rattle.pgo_base.specs.Lookup.{Name, Vars, same_name, or_that}
use Rattle.pgo_base.specs.declared.name_map.NameMap.{NameMap}
use Rattle.pgo_model.specs.Steps.{place_in}
use Rattle.pgo_check.specs.Placed.{ArePlaces}
use Rattle.pgo_check.proofs.Kept.{StandAlike}

-- one variable more at the end
pub place_more : (x : Name) (s : Vars) (p : Name × Data) → place_in x (s ++ p ∷ []) ≡ or_that (place_in x s) (if same_name x p.0 then Some (length s) else None)
place_more x [] p = refl
place_more x (q ∷ s) p = go (same_name x q.0) (place_more x s p)
  where
    inner : (o : Option ℕ) (c : Bool) → option_map suc (or_that o (if c then Some (length s) else None)) ≡ or_that (option_map suc o) (if c then Some (suc (length s)) else None)
    inner (Some i) c = refl
    inner None true = refl
    inner None false = refl

    go : (b : Bool) → place_in x (s ++ p ∷ []) ≡ or_that (place_in x s) (if same_name x p.0 then Some (length s) else None)
        → (if b then Some 0 else option_map suc (place_in x (s ++ p ∷ []))) ≡ or_that (if b then Some 0 else option_map suc (place_in x s)) (if same_name x p.0 then Some (suc (length s)) else None)
    go true ih = refl
    go false ih = ap (option_map suc) ih ∙ inner (place_in x s) (same_name x p.0)

-- a variable's place is in the state
pub place_within : (x : Name) (s : Vars) (i : ℕ) → place_in x s ≡ Some i → i < length s
place_within x [] i h = absurd (cc)
place_within x (q ∷ s) i h = go (same_name x q.0) (place_in x s) refl h (place_within x s)
  where
    go : (b : Bool) (o : Option ℕ) → place_in x s ≡ o → (if b then Some 0 else option_map suc o) ≡ Some i → ((j : ℕ) → place_in x s ≡ Some j → j < length s) → i < length (q ∷ s)
    go true o e k ih = let z : 0 ≡ i = cc in omega arith
    go false None e k ih = absurd (cc)
    go false (Some j) e k ih = let z : suc j ≡ i = cc in let l : j < length s = ih j e in omega arith

-- where no variable moved, the places are those of before
pub places_kept : (places : NameMap ℕ) (s t : Vars) → StandAlike s t → ArePlaces s places → ArePlaces t places
places_kept places s t a h x = h x ∙ sym (a x)
