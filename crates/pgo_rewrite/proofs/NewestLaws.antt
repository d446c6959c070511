-- The value of a name, by the place of the newest of it.
use Rattle.std.proofs.Common.{◌≡◌, ℕ, Bool, true, false, List, [], ◌∷◌, ◌++◌, length, refl, ap, sym, ◌∙◌, subst}
use Rattle.std.specs.Prelude.{if◌then◌else◌, Option, Some, None, option_map, slice_get, reverse}
use Rattle.std.proofs.lemmas.List.{reverse-append, reverse-reverse, length-reverse}
use Rattle.pgo_base.specs.LastPlace.{place_among, last_place}
use Rattle.pgo_base.specs.Lookup.{Name, same_name, find}
use Rattle.pgo_base.proofs.LastPlaces.{IsBelow, place_below, front_at, last_at}

abbrev named : {A : Type 0} → Name × A → Name
named r = r.0

-- the value in this place
abbrev pub value_at : {A : Type 0} → List (Name × A) → Option ℕ → Option A
value_at rows None = None
value_at rows (Some i) = option_map (λ r. r.1) (slice_get rows i)

same_place : {A : Type 0} (rows : List (Name × A)) (r : Name × A) (o : Option ℕ) → IsBelow o (length rows) → value_at rows o ≡ value_at (rows ++ r ∷ []) o
same_place rows r None h = refl
same_place rows r (Some i) h = ap (option_map (λ q. q.1)) (sym (front_at rows (r ∷ []) i h))

-- the value in the place of the newest is the value of the name
valued : {A : Type 0} (x : Name) (ns : List (Name × A)) → find x ns ≡ value_at (reverse ns) (place_among named x ns)
valued x [] = refl
valued x (r ∷ rs) = go (same_name x r.0) (valued x rs)
  where
    go : (b : Bool) → find x rs ≡ value_at (reverse rs) (place_among named x rs) → (if b then Some r.1 else find x rs) ≡ value_at (reverse (r ∷ rs)) (if b then Some (length rs) else place_among named x rs)
    go true h =
        sym (ap (λ l. value_at l (Some (length rs))) (reverse-append (r ∷ []) rs)
        ∙ ap (λ n. option_map (λ q. q.1) (slice_get (reverse rs ++ r ∷ []) n)) (sym (length-reverse rs))
        ∙ ap (option_map (λ q. q.1)) (last_at (reverse rs) r))
    go false h =
        h ∙ same_place (reverse rs) r (place_among named x rs) (subst (IsBelow (place_among named x rs)) (sym (length-reverse rs)) (place_below named x rs))
        ∙ sym (ap (λ l. value_at l (place_among named x rs)) (reverse-append (r ∷ []) rs))

-- the value of a name, by the place of the last row of it
pub placed_value : {A : Type 0} (rows : List (Name × A)) (x : Name) (o : Option ℕ) → o ≡ last_place (λ r. r.0) x rows → value_at rows o ≡ find x (reverse rows)
placed_value rows x o e =
    ap (value_at rows) e ∙ sym (valued x (reverse rows) ∙ ap (λ l. value_at l (place_among named x (reverse rows))) (reverse-reverse rows))
