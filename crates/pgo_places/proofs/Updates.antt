-- A list of which some are changed, one after the other.
use Rattle.std.proofs.Common.{◌≡◌, ℕ, zero, suc, ◌<◌, ◌≤◌, List, [], ◌∷◌, Bool, Option, refl, ap, sym, ◌∙◌, map, option_map, length, set, get_or, arith}
use Rattle.std.specs.Prelude.{if◌then◌else◌}
use Rattle.pgo_base.specs.BindingsView.{named_view}
use Rattle.pgo_base.specs.Data.{Data}
use Rattle.pgo_base.specs.Lookup.{Name, Names}
use Rattle.pgo_base.specs.View.{data_of}
use Rattle.pgo_base.specs.declared.bindings.NamedValue.{NamedValue}
use Rattle.pgo_places.specs.Stands.{updated}

-- behind the first n of a list
abbrev pub behind : {A : Type 0} → ℕ → (List A → List A) → List A → List A
behind zero f xs = f xs
behind (suc n) f [] = []
behind (suc n) f (x ∷ xs) = x ∷ behind n f xs

-- behind all of them
pub behind_end : {A B : Type 0} (g : B → A) (f : List A → List A) → f [] ≡ [] → (xs : List B) (n : ℕ) → length xs ≤ n → behind n f (map g xs) ≡ map g xs
behind_end g f e [] zero h = e
behind_end g f e [] (suc n) h = refl
behind_end g f e (x ∷ xs) zero h = absurd (omega (arith, h))
behind_end g f e (x ∷ xs) (suc n) h = ap (λ l. g x ∷ l) (behind_end g f e xs n (omega (arith, h)))

pub none_in : {A : Type 0} (xs : List A) → length xs ≡ 0 → xs ≡ []
none_in [] h = refl
none_in (x ∷ xs) h = absurd (omega (arith, h))

-- without owners there is nothing to change
pub behind_none : (t : Option Name → Name → Bool) (o : Option Data) (xs : Names) (n : ℕ) → behind n (updated t o []) xs ≡ xs
behind_none t o [] zero = refl
behind_none t o (x ∷ xs) zero = refl
behind_none t o [] (suc n) = refl
behind_none t o (x ∷ xs) (suc n) = ap (λ l. x ∷ l) (behind_none t o xs n)

updated_more : (t : Option Name → Name → Bool) (o : Option Data) (w : Option Name) (ws : List (Option Name)) (xs : List NamedValue) (i : ℕ) (d x' : NamedValue)
    → i < length xs → named_view x' ≡ ((get_or xs i d).name, (if t w (get_or xs i d).name then o else option_map data_of (get_or xs i d).value))
    → behind (suc i) (updated t o ws) (map named_view (set xs i x')) ≡ behind i (updated t o (w ∷ ws)) (map named_view xs)
updated_more t o w ws [] i d x' h e = absurd (omega (arith, h))
updated_more t o w ws (x ∷ xs) zero d x' h e = ap (λ n. n ∷ updated t o ws (map named_view xs)) e
updated_more t o w ws (x ∷ xs) (suc i) d x' h e = ap (λ l. named_view x ∷ l) (updated_more t o w ws xs i d x' (omega (arith, h)) e)

-- one variable more
pub update_step : (t : Option Name → Name → Bool) (o : Option Data) (left rest : List (Option Name)) (w : Option Name) (xs : List NamedValue) (i j : ℕ) (d x' : NamedValue)
    → left ≡ w ∷ rest → i < length xs → j ≡ suc i → named_view x' ≡ ((get_or xs i d).name, (if t w (get_or xs i d).name then o else option_map data_of (get_or xs i d).value))
    → behind j (updated t o rest) (map named_view (set xs i x')) ≡ behind i (updated t o left) (map named_view xs)
update_step t o left rest w xs i j d x' l h n e =
    ap (λ k. behind k (updated t o rest) (map named_view (set xs i x'))) n
    ∙ updated_more t o w rest xs i d x' h e
    ∙ ap (λ ls. behind i (updated t o ls) (map named_view xs)) (sym l)
