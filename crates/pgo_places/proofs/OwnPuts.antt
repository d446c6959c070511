-- Own components of which some have a new value, one after the other.
use Rattle.std.proofs.Common.{◌≡◌, ℕ, zero, suc, ◌<◌, ◌≤◌, List, [], ◌∷◌, true, false, Option, Some, None, refl, ap, sym, ◌∙◌, subst, map, length, set, get_or, arith}
use Rattle.std.specs.Prelude.{if◌then◌else◌, slice_get, unwrap_or}
use Rattle.pgo_base.specs.Data.{Data}
use Rattle.pgo_base.specs.Lookup.{Name, same_name}
use Rattle.pgo_base.specs.View.{named_data}
use Rattle.pgo_base.specs.declared.value.Value.{Value}
use Rattle.pgo_workers.specs.Walk.{Own}
use Rattle.pgo_places.specs.Stands.{own_put, own_put_at}

-- behind the first n of them
abbrev pub own_behind : ℕ → Name → Data → Own → Own
own_behind zero y v o = own_put y v o
own_behind (suc n) y v [] = []
own_behind (suc n) y v (p ∷ o) = p ∷ own_behind n y v o

pub own_behind_end : (n : ℕ) (y : Name) (v : Data) (o : Own) → length o ≤ n → own_behind n y v o ≡ o
own_behind_end zero y v [] h = refl
own_behind_end zero y v (p ∷ o) h = absurd (omega (arith, h))
own_behind_end (suc n) y v [] h = refl
own_behind_end (suc n) y v (p ∷ o) h = ap (λ l. p ∷ l) (own_behind_end n y v o (omega (arith, h)))

one_behind : (n : ℕ) (y : Name) (v : Data) (o : Own) → own_behind (suc n) y v (own_put_at y v n o) ≡ own_behind n y v o
one_behind zero y v [] = refl
one_behind zero y v (p ∷ o) = refl
one_behind (suc n) y v [] = refl
one_behind (suc n) y v (p ∷ o) = ap (λ l. p ∷ l) (one_behind n y v o)

-- one component more
pub own_behind_step : (n m : ℕ) (y : Name) (v : Data) (o : Own) → m ≡ suc n → own_behind m y v (own_put_at y v n o) ≡ own_behind n y v o
own_behind_step n m y v o e = ap (λ k. own_behind k y v (own_put_at y v n o)) e ∙ one_behind n y v o

pub own_put_length : (n : ℕ) (y : Name) (v : Data) (o : Own) → length (own_put_at y v n o) ≡ length o
own_put_length zero y v [] = refl
own_put_length (suc n) y v [] = refl
own_put_length zero y v (p ∷ o) = refl
own_put_length (suc n) y v (p ∷ o) = ap (λ l. suc l) (own_put_length n y v o)

-- what stands at a place of a state in memory
pub own_at_place : (xs : List (Name × Value)) (n : ℕ) (d : Name × Value) → n < length (map named_data xs) → slice_get (map named_data xs) n ≡ Some (named_data (get_or xs n d))
own_at_place [] n d h = absurd (omega (arith, h))
own_at_place (x ∷ xs) zero d h = refl
own_at_place (x ∷ xs) (suc n) d h = own_at_place xs n d (omega (arith, h))

none_here : {A : Type 0} (o : Option A) (p : A) → o ≡ None → o ≡ Some p → ⊥
none_here o p e h = cc

-- it has the name
pub own_put_here : (n : ℕ) (y : Name) (v : Data) (o : Own) (p : Name × Data) → slice_get o n ≡ Some p → same_name p.0 y ≡ true → own_put_at y v n o ≡ set o n (p.0, v)
own_put_here zero y v [] p h e = absurd (none_here None p refl h)
own_put_here (suc n) y v [] p h e = absurd (none_here None p refl h)
own_put_here zero y v (q ∷ o) p h e =
    subst (λ (r : Name × Data). (r.0, if same_name r.0 y then v else r.1) ∷ o ≡ (p.0, v) ∷ o) (sym (ap (λ z. unwrap_or z q) h)) (ap (λ b. (p.0, if b then v else p.1) ∷ o) e)
own_put_here (suc n) y v (q ∷ o) p h e = ap (λ l. q ∷ l) (own_put_here n y v o p h e)

-- it hasn't
pub own_put_not : (n : ℕ) (y : Name) (v : Data) (o : Own) (p : Name × Data) → slice_get o n ≡ Some p → same_name p.0 y ≡ false → own_put_at y v n o ≡ o
own_put_not zero y v [] p h e = absurd (none_here None p refl h)
own_put_not (suc n) y v [] p h e = absurd (none_here None p refl h)
own_put_not zero y v (q ∷ o) p h e =
    subst (λ (r : Name × Data). (r.0, if same_name r.0 y then v else r.1) ∷ o ≡ r ∷ o) (sym (ap (λ z. unwrap_or z q) h)) (ap (λ b. (p.0, if b then v else p.1) ∷ o) e)
own_put_not (suc n) y v (q ∷ o) p h e = ap (λ l. q ∷ l) (own_put_not n y v o p h e)
