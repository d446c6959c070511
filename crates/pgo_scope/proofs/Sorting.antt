-- What a stable sort by place leaves are the items in the order of the text.
use Rattle.std.proofs.Common.{◌≡◌, ◌≤◌, ◌<◌, ℕ, suc, Bool, true, false, not, ◌&&◌, List, [], ◌∷◌, map, filter, length, get_or, refl, ap, sym, ◌∙◌, arith}
use Rattle.std.specs.Prelude.{if◌then◌else◌, nat_le, nat_eq}
use Rattle.std.specs.Ordering.{nat_cmp, is_lt}
use Rattle.std.specs.List.Sorted.{IsNonDecreasingBy, IsStableByKey, ties}
use Rattle.pgo_scope.specs.TextOrder.{in_place, in_text_order}

-- those of one place
abbrev pub at : {A : Type 0} → (A → ℕ) → ℕ → List A → List A
at place p [] = []
at place p (x ∷ xs) = if nat_eq (place x) p then x ∷ at place p xs else at place p xs

-- no place before p
abbrev pub From : {A : Type 0} → (A → ℕ) → ℕ → List A → Type 0
From place p [] = Unit {0}
From place p (x ∷ xs) = (p ≤ place x) × From place p xs

-- each place isn't before those to its left
abbrev pub Rises : {A : Type 0} → (A → ℕ) → List A → Type 0
Rises place [] = Unit {0}
Rises place (x ∷ xs) = From place (place x) xs × Rises place xs

from_less : {A : Type 0} (place : A → ℕ) (p q : ℕ) (xs : List A) → p ≤ q → From place q xs → From place p xs
from_less place p q [] h f = tt
from_less place p q (x ∷ xs) h f = (omega (arith, f.0), from_less place p q xs h f.1)

at_same : {A : Type 0} (place : A → ℕ) (p : ℕ) (x : A) (xs : List A) → place x ≡ p → at place p (x ∷ xs) ≡ x ∷ at place p xs
at_same place p x xs h = go (nat_eq (place x) p) (grind (arith, h))
  where
    go : (b : Bool) → b ≡ true → (if b then x ∷ at place p xs else at place p xs) ≡ x ∷ at place p xs
    go true e = refl
    go false e = absurd (cc)

at_other : {A : Type 0} (place : A → ℕ) (p : ℕ) (x : A) (xs : List A) → (place x ≡ p → ⊥) → at place p (x ∷ xs) ≡ at place p xs
at_other place p x xs h = go (nat_eq (place x) p) refl
  where
    go : (b : Bool) → nat_eq (place x) p ≡ b → (if b then x ∷ at place p xs else at place p xs) ≡ at place p xs
    go true e = absurd (h (grind (arith, e)))
    go false e = refl

-- none of a place before all
at_none : {A : Type 0} (place : A → ℕ) (p q : ℕ) (xs : List A) → p < q → From place q xs → at place p xs ≡ []
at_none place p q [] h f = refl
at_none place p q (x ∷ xs) h f = at_other place p x xs (λ e. omega (arith, f.0)) ∙ at_none place p q xs h f.1

tail_of : {A : Type 0} (x y : A) (xs ys : List A) → x ∷ xs ≡ y ∷ ys → xs ≡ ys
tail_of x y xs ys h = cc

-- two rising lists with the same ones at each place are one
pub rising_is : {A : Type 0} (place : A → ℕ) (xs ys : List A) → Rises place xs → Rises place ys → ((z : A) → at place (place z) xs ≡ at place (place z) ys) → xs ≡ ys
rising_is place [] [] f g h = refl
rising_is place [] (y ∷ ys) f g h = absurd (let e : [] ≡ y ∷ at place (place y) ys = h y ∙ at_same place (place y) y ys refl in cc)
rising_is place (x ∷ xs) [] f g h = absurd (let e : [] ≡ x ∷ at place (place x) xs = sym (h x) ∙ at_same place (place x) x xs refl in cc)
rising_is {A} place (x ∷ xs) (y ∷ ys) f g h =
    let low : place y ≤ place x = not_less x xs y ys f.0 g.0 (h x) in
    let high : place x ≤ place y = not_less y ys x xs g.0 f.0 (sym (h y)) in
    let same : place x ≡ place y = omega arith in
    let e : x ∷ at place (place x) xs ≡ y ∷ at place (place x) ys =
    sym (at_same place (place x) x xs refl) ∙ h x ∙ at_same place (place x) y ys (sym same) in
    let head : x ≡ y = cc in
    let rest : xs ≡ ys = rising_is place xs ys f.1 g.1 (behind x xs y ys same h (tail_of x y _ _ e)) in
    λ i. head i ∷ rest i
  where
    not_less : (x : A) (xs : List A) (y : A) (ys : List A) → From place (place x) xs → From place (place y) ys → at place (place x) (x ∷ xs) ≡ at place (place x) (y ∷ ys) → place y ≤ place x
    not_less x xs y ys f g e = go (nat_le (place y) (place x)) refl
      where
        go : (b : Bool) → nat_le (place y) (place x) ≡ b → place y ≤ place x
        go true h = grind (arith, h)
        go false h =
            let less : place x < place y = grind (arith, h) in
            let none : at place (place x) (y ∷ ys) ≡ [] = at_none place (place x) (place y) (y ∷ ys) less (omega arith, g) in
            absurd (let bad : x ∷ at place (place x) xs ≡ [] = sym (at_same place (place x) x xs refl) ∙ e ∙ none in cc)

    behind : (x : A) (xs : List A) (y : A) (ys : List A) → place x ≡ place y → ((z : A) → at place (place z) (x ∷ xs) ≡ at place (place z) (y ∷ ys)) → at place (place x) xs ≡ at place (place x) ys → (z : A) → at place (place z) xs ≡ at place (place z) ys
    behind x xs y ys same h e z = go (nat_eq (place x) (place z)) refl
      where
        go : (b : Bool) → nat_eq (place x) (place z) ≡ b → at place (place z) xs ≡ at place (place z) ys
        go true k =
            let q : place x ≡ place z = grind (arith, k) in
            ap (λ p. at place p xs) (sym q) ∙ e ∙ ap (λ p. at place p ys) q
        go false k =
            let q : place x ≡ place z → ⊥ = λ r. grind (arith, k, r) in
            sym (at_other place (place z) x xs q) ∙ h z ∙ at_other place (place z) y ys (λ r. q (same ∙ r))

from_in_place : {A : Type 0} (place : A → ℕ) (p : ℕ) (x : A) (ys : List A) → p ≤ place x → From place p ys → From place p (in_place place x ys)
from_in_place place p x [] h f = (h, tt)
from_in_place place p x (y ∷ ys) h f = go (nat_le (place x) (place y)) (from_in_place place p x ys h f.1)
  where
    go : (b : Bool) → From place p (in_place place x ys) → From place p (if b then x ∷ y ∷ ys else y ∷ in_place place x ys)
    go true r = (h, f)
    go false r = (f.0, r)

rises_in_place : {A : Type 0} (place : A → ℕ) (x : A) (ys : List A) → Rises place ys → Rises place (in_place place x ys)
rises_in_place place x [] f = (tt, tt)
rises_in_place place x (y ∷ ys) f = go (nat_le (place x) (place y)) refl (rises_in_place place x ys f.1)
  where
    go : (b : Bool) → nat_le (place x) (place y) ≡ b → Rises place (in_place place x ys) → Rises place (if b then x ∷ y ∷ ys else y ∷ in_place place x ys)
    go true k r =
        let le : place x ≤ place y = grind (arith, k) in
        ((le, from_less place (place x) (place y) ys le f.0), f)
    go false k r =
        let le : place y ≤ place x = grind (arith, k) in
        (from_in_place place (place y) x ys le f.0, r)

pub rises_in_order : {A : Type 0} (place : A → ℕ) (xs : List A) → Rises place (in_text_order place xs)
rises_in_order place [] = tt
rises_in_order place (x ∷ xs) = rises_in_place place x (in_text_order place xs) (rises_in_order place xs)

at_in_place : {A : Type 0} (place : A → ℕ) (p : ℕ) (x : A) (ys : List A) → at place p (in_place place x ys) ≡ at place p (x ∷ ys)
at_in_place place p x [] = refl
at_in_place place p x (y ∷ ys) = go (nat_le (place x) (place y)) refl (at_in_place place p x ys)
  where
    apart : (b c : Bool) → nat_eq (place x) p ≡ b → nat_eq (place y) p ≡ c → nat_le (place x) (place y) ≡ false → (if c then y ∷ (if b then x ∷ at place p ys else at place p ys) else (if b then x ∷ at place p ys else at place p ys)) ≡ (if b then x ∷ (if c then y ∷ at place p ys else at place p ys) else (if c then y ∷ at place p ys else at place p ys))
    apart true true e f k = absurd (grind (arith, e, f, k))
    apart true false e f k = refl
    apart false true e f k = refl
    apart false false e f k = refl

    go : (b : Bool) → nat_le (place x) (place y) ≡ b → at place p (in_place place x ys) ≡ at place p (x ∷ ys) → at place p (if b then x ∷ y ∷ ys else y ∷ in_place place x ys) ≡ at place p (x ∷ y ∷ ys)
    go true k r = refl
    go false k r =
        ap (λ l. if nat_eq (place y) p then y ∷ l else l) r ∙ apart (nat_eq (place x) p) (nat_eq (place y) p) refl refl k

pub at_in_order : {A : Type 0} (place : A → ℕ) (p : ℕ) (xs : List A) → at place p (in_text_order place xs) ≡ at place p xs
at_in_order place p [] = refl
at_in_order place p (x ∷ xs) =
    at_in_place place p x (in_text_order place xs) ∙ ap (λ l. if nat_eq (place x) p then x ∷ l else l) (at_in_order place p xs)

from_all : {A : Type 0} (place : A → ℕ) (p : ℕ) (xs : List A) → ((k : ℕ) (d : A) → k < length xs → p ≤ place (get_or xs k d)) → From place p xs
from_all place p [] h = tt
from_all place p (x ∷ xs) h = (h 0 x (omega arith), from_all place p xs (λ k d l. h (suc k) d (omega arith)))

rises_all : {A : Type 0} (place : A → ℕ) (xs : List A) → IsNonDecreasingBy place xs → Rises place xs
rises_all place [] h = tt
rises_all place (x ∷ xs) h =
    (from_all place (place x) xs (λ k d l. h 0 (suc k) d (omega arith) (omega arith)), rises_all place xs (λ i j d l m. h (suc i) (suc j) d (omega arith) (omega arith)))

ties_are : (a b : ℕ) → not (is_lt (nat_cmp a b)) && not (is_lt (nat_cmp b a)) ≡ nat_eq b a
ties_are a b = grind arith

filter_is : {A : Type 0} (place : A → ℕ) (z : A) (xs : List A) → filter (ties (λ x y. is_lt (nat_cmp (place x) (place y))) z) xs ≡ at place (place z) xs
filter_is place z [] = refl
filter_is place z (x ∷ xs) = λ i. if ties_are (place z) (place x) i then x ∷ filter_is place z xs i else filter_is place z xs i

pub sorted_is : {A : Type 0} (place : A → ℕ) (xs ys : List A) → IsNonDecreasingBy place ys → IsStableByKey place nat_cmp xs ys → ys ≡ in_text_order place xs
sorted_is place xs ys n s =
    rising_is place ys (in_text_order place xs) (rises_all place ys n) (rises_in_order place xs)
    (λ z. sym (filter_is place z ys) ∙ s z ∙ filter_is place z xs ∙ sym (at_in_order place (place z) xs))

-- the same through a view of the items
pub in_place_map : {A B : Type 0} (f : A → B) (place : B → ℕ) (x : A) (ys : List A) → map f (in_place (λ a. place (f a)) x ys) ≡ in_place place (f x) (map f ys)
in_place_map f place x [] = refl
in_place_map f place x (y ∷ ys) = go (nat_le (place (f x)) (place (f y))) (in_place_map f place x ys)
  where
    go : (b : Bool) → map f (in_place (λ a. place (f a)) x ys) ≡ in_place place (f x) (map f ys) → map f (if b then x ∷ y ∷ ys else y ∷ in_place (λ a. place (f a)) x ys) ≡ (if b then f x ∷ f y ∷ map f ys else f y ∷ in_place place (f x) (map f ys))
    go true r = refl
    go false r = ap (λ l. f y ∷ l) r

pub in_order_map : {A B : Type 0} (f : A → B) (place : B → ℕ) (xs : List A) → map f (in_text_order (λ a. place (f a)) xs) ≡ in_text_order place (map f xs)
in_order_map f place [] = refl
in_order_map f place (x ∷ xs) =
    in_place_map f place x (in_text_order (λ a. place (f a)) xs) ∙ ap (in_place place (f x)) (in_order_map f place xs)
