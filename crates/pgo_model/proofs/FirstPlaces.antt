-- Whether a name is one of the first so many, by the place of the first of it.
use Rattle.std.proofs.Common.{◌≡◌, ℕ, zero, suc, Bool, true, false, ◌||◌, List, [], ◌∷◌, map, take, refl, ◌∙◌, arith}
use Rattle.std.specs.Prelude.{if◌then◌else◌, Option, Some, None, option_map}
use Rattle.pgo_base.specs.FirstPlace.{first_place, is_below}
use Rattle.pgo_base.specs.Lookup.{Name, same_name}
use Rattle.pgo_model.specs.Names.{is_among}

below_none : (o : Option ℕ) → is_below 0 o ≡ false
below_none None = refl
below_none (Some i) = grind arith

below_next : (n : ℕ) (o : Option ℕ) → is_below (suc n) (option_map suc o) ≡ is_below n o
below_next n None = refl
below_next n (Some i) = grind arith

pub below_is : {A : Type 0} (f : A → Name) (x : Name) (rows : List A) (n : ℕ) → is_below n (first_place f x rows) ≡ is_among x (take n (map f rows))
below_is f x rows zero = below_none (first_place f x rows)
below_is f x [] (suc n) = refl
below_is f x (r ∷ rows) (suc n) = go (same_name x (f r)) (below_is f x rows n)
  where
    go : (b : Bool) → is_below n (first_place f x rows) ≡ is_among x (take n (map f rows)) → is_below (suc n) (if b then Some 0 else option_map suc (first_place f x rows)) ≡ b || is_among x (take n (map f rows))
    go true h = grind arith
    go false h = below_next n (first_place f x rows) ∙ h
