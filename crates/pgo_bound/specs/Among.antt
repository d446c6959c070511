-- What is among the items of a list, and what is found there by its name.
use Rattle.std.proofs.Common.{◌≡◌, ◌⊎◌, ℕ, zero, suc, ◌+◌, Bool, true, false, ◌||◌, if◌then◌else◌, List, [], ◌∷◌, ◌++◌, map, cond, Option, Some, None, option_map, refl, ap, sym, ◌∙◌, subst, inl, inr, arith}
use Rattle.std.specs.Prelude.{filter}
use Rattle.std.specs.List.{AllByRecursion, filter_map, flat_map, list_any, cons_option}
use Rattle.std.proofs.lemmas.Option.{same_Some}
use Rattle.pgo_base.specs.Data.{Data}
pub use Rattle.pgo_base.specs.Lists.{IsAmong}
use Rattle.pgo_base.specs.Lookup.{Name, Vars, same_name, find}
use Rattle.pgo_model.specs.Machine.{nth}
use Rattle.pgo_model.specs.Names.{same_name-self}
pub use Rattle.pgo_model.specs.Names.{turned}
use Rattle.pgo_model.specs.State.{AllValues}
use Rattle.pgo_model.specs.Value.{IsValue}
use Rattle.pgo_bound.specs.BoundOf.{numbered}
use Rattle.pgo_bound.specs.State.{AreDifferent}

pub among_map : {A B : Type 0} (f : A → B) (x : A) (xs : List A) → IsAmong x xs → IsAmong (f x) (map f xs)
among_map f x [] h = h
among_map f x (y ∷ ys) (inl e) = inl (ap f e)
among_map f x (y ∷ ys) (inr h) = inr (among_map f x ys h)

pub among_left : {A : Type 0} (x : A) (xs ys : List A) → IsAmong x xs → IsAmong x (xs ++ ys)
among_left x [] ys h = absurd h
among_left x (z ∷ xs) ys (inl e) = inl e
among_left x (z ∷ xs) ys (inr h) = inr (among_left x xs ys h)

pub among_right : {A : Type 0} (x : A) (xs ys : List A) → IsAmong x ys → IsAmong x (xs ++ ys)
among_right x [] ys h = h
among_right x (z ∷ xs) ys h = inr (among_right x xs ys h)

pub among_append : {A : Type 0} (x : A) (xs ys : List A) → IsAmong x (xs ++ ys) → IsAmong x xs ⊎ IsAmong x ys
among_append x [] ys h = inr h
among_append x (z ∷ xs) ys (inl e) = inl (inl e)
among_append {A = A} x (z ∷ xs) ys (inr h) = go (among_append x xs ys h)
  where
    go : IsAmong x xs ⊎ IsAmong x ys → IsAmong x (z ∷ xs) ⊎ IsAmong x ys
    go (inl g) = inl (inr g)
    go (inr g) = inr g

pub among_flat_map : {A B : Type 0} (f : A → List B) (x : A) (y : B) (xs : List A) → IsAmong x xs → IsAmong y (f x) → IsAmong y (flat_map f xs)
among_flat_map f x y [] h g = absurd h
among_flat_map f x y (z ∷ zs) (inl e) g = among_left y (f z) (flat_map f zs) (subst (λ w. IsAmong y (f w)) e g)
among_flat_map f x y (z ∷ zs) (inr h) g = among_right y (f z) (flat_map f zs) (among_flat_map f x y zs h g)

pub among_filter_map : {A B : Type 0} (f : A → Option B) (x : A) (y : B) (xs : List A) → IsAmong x xs → f x ≡ Some y → IsAmong y (filter_map f xs)
among_filter_map f x y [] h g = absurd h
among_filter_map f x y (z ∷ zs) (inl e) g = subst (λ o. IsAmong y (cons_option o (filter_map f zs))) (sym g ∙ ap f e) (inl refl)
among_filter_map {B = B} f x y (z ∷ zs) (inr h) g = go (f z) (among_filter_map f x y zs h g)
  where
    go : (o : Option B) → IsAmong y (filter_map f zs) → IsAmong y (cons_option o (filter_map f zs))
    go None r = r
    go (Some w) r = inr r

pub among_filter : {A : Type 0} (p : A → Bool) (x : A) (xs : List A) → IsAmong x xs → p x ≡ true → IsAmong x (filter p xs)
among_filter p x [] h g = absurd h
among_filter p x (z ∷ zs) (inl e) g = subst (λ b. IsAmong x (cond b (z ∷ filter p zs) (filter p zs))) (sym g ∙ ap p e) (inl e)
among_filter p x (z ∷ zs) (inr h) g = go (p z) (among_filter p x zs h g)
  where
    go : (b : Bool) → IsAmong x (filter p zs) → IsAmong x (cond b (z ∷ filter p zs) (filter p zs))
    go true r = inr r
    go false r = r

-- where an item of such a list comes from
pub from_map : {A B : Type 0} (f : A → B) (y : B) (xs : List A) → IsAmong y (map f xs) → (x : A) × IsAmong x xs × (y ≡ f x)
from_map f y [] h = absurd h
from_map f y (z ∷ zs) (inl e) = (z, inl refl, e)
from_map f y (z ∷ zs) (inr h) = let r = from_map f y zs h in (r.0, inr r.1, r.2)

pub from_flat_map : {A B : Type 0} (f : A → List B) (y : B) (xs : List A) → IsAmong y (flat_map f xs) → (x : A) × IsAmong x xs × IsAmong y (f x)
from_flat_map f y [] h = absurd h
from_flat_map {A = A} f y (z ∷ zs) h = go (among_append y (f z) (flat_map f zs) h) (from_flat_map f y zs)
  where
    go : IsAmong y (f z) ⊎ IsAmong y (flat_map f zs) → (IsAmong y (flat_map f zs) → (x : A) × IsAmong x zs × IsAmong y (f x)) → (x : A) × IsAmong x (z ∷ zs) × IsAmong y (f x)
    go (inl g) r = (z, inl refl, g)
    go (inr g) r = let q = r g in (q.0, inr q.1, q.2)

pub from_filter_map : {A B : Type 0} (f : A → Option B) (y : B) (xs : List A) → IsAmong y (filter_map f xs) → (x : A) × IsAmong x xs × (f x ≡ Some y)
from_filter_map f y [] h = absurd h
from_filter_map {A = A} {B = B} f y (z ∷ zs) h = go (f z) refl h (from_filter_map f y zs)
  where
    go : (o : Option B) → f z ≡ o → IsAmong y (cons_option o (filter_map f zs)) → (IsAmong y (filter_map f zs) → (x : A) × IsAmong x zs × (f x ≡ Some y)) → (x : A) × IsAmong x (z ∷ zs) × (f x ≡ Some y)
    go None e g r = let q = r g in (q.0, inr q.1, q.2)
    go (Some w) e (inl g) r = (z, inl refl, e ∙ ap Some (sym g))
    go (Some w) e (inr g) r = let q = r g in (q.0, inr q.1, q.2)

pub mapped_some : {A B : Type 0} (f : A → B) (o : Option A) (y : B) → option_map f o ≡ Some y → (x : A) × (o ≡ Some x) × (y ≡ f x)
mapped_some f None y h = absurd (cc)
mapped_some f (Some x) y h = (x, refl, let e : y ≡ f x = cc in e)

pub among_nth : {A : Type 0} (x : A) (xs : List A) (n : ℕ) → nth xs n ≡ Some x → IsAmong x xs
among_nth x [] n h = absurd (cc)
among_nth x (y ∷ ys) zero h = inl (sym (same_Some y x h))
among_nth x (y ∷ ys) (suc n) h = inr (among_nth x ys n h)

pub nth_among : {A : Type 0} (x : A) (xs : List A) → IsAmong x xs → (n : ℕ) × (nth xs n ≡ Some x)
nth_among x [] h = absurd h
nth_among x (y ∷ ys) (inl e) = (0, ap Some (sym e))
nth_among x (y ∷ ys) (inr h) = let r = nth_among x ys h in (suc r.0, r.1)

pub nth_map : {A B : Type 0} (f : A → B) (n : ℕ) (xs : List A) (x : A) → nth xs n ≡ Some x → nth (map f xs) n ≡ Some (f x)
nth_map f n [] x h = absurd (cc)
nth_map f zero (y ∷ ys) x h = ap (λ z. Some (f z)) (same_Some y x h)
nth_map f (suc n) (y ∷ ys) x h = nth_map f n ys x h

pub from_numbered : {A B : Type 0} (f : ℕ → A → B) (n : ℕ) (y : B) (xs : List A) → IsAmong y (numbered f n xs) → (x : A) × IsAmong x xs × ((m : ℕ) × (y ≡ f m x))
from_numbered f n y [] h = absurd h
from_numbered f n y (z ∷ zs) (inl e) = (z, inl refl, (n, e))
from_numbered f n y (z ∷ zs) (inr h) = let r = from_numbered f (suc n) y zs h in (r.0, inr r.1, r.2)

-- the item of a numbered list at a place is the item there, with the place as its number
pub nth_from : {A B : Type 0} (f : ℕ → A → B) (k n : ℕ) (xs : List A) (y : B) → nth (numbered f k xs) n ≡ Some y → (x : A) × (nth xs n ≡ Some x) × ((m : ℕ) × (m ≡ k + n) × (y ≡ f m x))
nth_from f k n [] y h = absurd (cc)
nth_from f k zero (x ∷ xs) y h = (x, refl, (k, let e : k ≡ k + 0 = omega arith in e, sym (same_Some (f k x) y h)))
nth_from f k (suc n) (x ∷ xs) y h =
    let r = nth_from f (suc k) n xs y h in
    (r.0, r.1, (r.2.0, let e : r.2.0 ≡ k + suc n = omega (arith, r.2.1) in e, r.2.2))

-- what is so of none is so of none of these
pub none_any : {A : Type 0} (p : A → Bool) (x : A) (xs : List A) → list_any p xs ≡ false → IsAmong x xs → p x ≡ false
none_any p x [] h g = absurd g
none_any p x (y ∷ ys) h (inl e) = ap p e ∙ left (p y) (list_any p ys) h
  where
    left : (a b : Bool) → (a || b) ≡ false → a ≡ false
    left true b e = e
    left false b e = refl
none_any p x (y ∷ ys) h (inr g) = none_any p x ys (right (p y) (list_any p ys) h) g
  where
    right : (a b : Bool) → (a || b) ≡ false → b ≡ false
    right true b e = absurd (cc)
    right false b e = e

pub some_any : {A : Type 0} (p : A → Bool) (x : A) (xs : List A) → IsAmong x xs → p x ≡ true → list_any p xs ≡ true
some_any p x [] h g = absurd h
some_any p x (y ∷ ys) (inl e) g = ap (λ b. b || list_any p ys) (sym (ap p e) ∙ g)
some_any p x (y ∷ ys) (inr h) g = go (p y) (some_any p x ys h g)
  where
    go : (b : Bool) → list_any p ys ≡ true → (b || list_any p ys) ≡ true
    go true r = refl
    go false r = r

pub empty_none : {A : Type 0} (x : A) (xs : List A) → xs ≡ [] → IsAmong x xs → ⊥
empty_none x xs e h = subst (IsAmong x) e h

pub none_filter_map : {A B : Type 0} (f : A → Option B) (x : A) (xs : List A) → filter_map f xs ≡ [] → IsAmong x xs → f x ≡ None
none_filter_map {B = B} f x xs e h = go (f x) refl
  where
    go : (o : Option B) → f x ≡ o → f x ≡ None
    go None g = g
    go (Some y) g = absurd (empty_none y (filter_map f xs) e (among_filter_map f x y xs h g))

pub none_flat_map : {A B : Type 0} (f : A → List B) (x : A) (xs : List A) → flat_map f xs ≡ [] → IsAmong x xs → f x ≡ []
none_flat_map {B = B} f x xs e h = go (f x) refl
  where
    go : (ys : List B) → f x ≡ ys → f x ≡ []
    go [] g = g
    go (y ∷ ys) g = absurd (empty_none y (flat_map f xs) e (among_flat_map f x y xs h (subst (IsAmong y) (sym g) (inl refl))))

pub none_left : {A : Type 0} (xs ys : List A) → xs ++ ys ≡ [] → xs ≡ []
none_left [] ys h = refl
none_left (x ∷ xs) ys h = absurd (cc)

pub none_right : {A : Type 0} (xs ys : List A) → xs ++ ys ≡ [] → ys ≡ []
none_right [] ys h = h
none_right (x ∷ xs) ys h = absurd (cc)

pub empty_map : {A B : Type 0} (f : A → B) (xs : List A) → map f xs ≡ [] → xs ≡ []
empty_map f [] h = refl
empty_map f (x ∷ xs) h = absurd (cc)

pub all_at : {A : Type 0} (P : A → Type 0) (x : A) (xs : List A) → AllByRecursion P xs → IsAmong x xs → P x
all_at P x [] a h = absurd h
all_at P x (y ∷ ys) a (inl e) = subst P (sym e) a.0
all_at P x (y ∷ ys) a (inr h) = all_at P x ys a.1 h

-- names that differ are found
pub found_among : {A : Type 0} (x : Name) (v : A) (s : List (Name × A)) → AreDifferent (map (λ p. p.0) s) → IsAmong (x, v) s → find x s ≡ Some v
found_among x v [] d h = absurd h
found_among x v (p ∷ ps) d (inl e) =
    ap (λ b. if b then Some p.1 else find x ps) (ap (same_name x) (sym (ap (λ q. q.0) e)) ∙ same_name-self x) ∙ ap (λ q. Some q.1) (sym e)
found_among x v (p ∷ ps) d (inr h) =
    let apart = all_at (λ y. same_name p.0 y ≡ false) x (map (λ q. q.0) ps) d.0 (among_map (λ q. q.0) (x, v) ps h) in
    ap (λ b. if b then Some p.1 else find x ps) (turned p.0 x apart) ∙ found_among x v ps d.1 h

-- what a variable has is a value, where all have
pub value_at_name : (s : Vars) (p : Name × Data) → AllValues s → IsAmong p s → IsValue p.1
value_at_name [] p a h = absurd h
value_at_name (q ∷ qs) p a (inl e) = subst (λ (r : Name × Data). IsValue r.1) (sym e) a.0
value_at_name (q ∷ qs) p a (inr h) = value_at_name qs p a.1 h
