-- How often a name stands in a list of names; where each stands at most once, no two are one.
use Rattle.std.proofs.Common.{◌≡◌, ◌≤◌, ℕ, zero, suc, ◌+◌, Bool, true, false, List, [], ◌∷◌, ◌++◌, map, Some, refl, ap, sym, ◌∙◌, arith}
use Rattle.std.specs.List.{AllByRecursion}
use Rattle.pgo_base.specs.Lookup.{Name, same_name}
use Rattle.pgo_model.specs.Machine.{nth}
use Rattle.pgo_model.specs.Names.{same_name-self}
use Rattle.pgo_bound.specs.State.{AreDifferent}

abbrev pub one_if : Bool → ℕ
one_if true = 1
one_if false = 0

abbrev pub times : Name → List Name → ℕ
times x [] = 0
times x (y ∷ ys) = one_if (same_name x y) + times x ys

pub times-append : (x : Name) (xs ys : List Name) → times x (xs ++ ys) ≡ times x xs + times x ys
times-append x [] ys = omega arith
times-append x (z ∷ zs) ys = omega (arith, times-append x zs ys)

pub times-map_append : (f : Name → Name) (x : Name) (xs ys : List Name) → times x (map f (xs ++ ys)) ≡ times x (map f xs) + times x (map f ys)
times-map_append f x [] ys = omega arith
times-map_append f x (z ∷ zs) ys = omega (arith, times-map_append f x zs ys)

-- a name that stands nowhere differs from each
none_same : (x : Name) (ys : List Name) → times x ys ≡ 0 → AllByRecursion (λ y. same_name x y ≡ false) ys
none_same x [] h = tt
none_same x (y ∷ ys) h = go (same_name x y) refl h (none_same x ys)
  where
    go : (b : Bool) → same_name x y ≡ b → one_if b + times x ys ≡ 0 → (times x ys ≡ 0 → AllByRecursion (λ z. same_name x z ≡ false) ys) → AllByRecursion (λ z. same_name x z ≡ false) (y ∷ ys)
    go true e g r = absurd (omega (arith, g))
    go false e g r = (e, r (omega (arith, g)))

here : (x : Name) → one_if (same_name x x) ≡ 1
here x = ap one_if (same_name-self x)

pub different : (ns : List Name) → ((x : Name) → times x ns ≤ 1) → AreDifferent ns
different [] f = tt
different (n ∷ ns) f =
    (none_same n ns (omega (arith, f n, here n)), different ns (λ x. omega (arith, f x)))

-- ---- places

module _ {A : Type 0} (name : A → Name) where
  some_is : (a b : A) → Some a ≡ Some b → a ≡ b
  some_is a b e = cc

  stands : (n : ℕ) (a : A) (xs : List A) → nth xs n ≡ Some a → 1 ≤ times (name a) (map name xs)
  stands n a [] h = absurd (cc)
  stands zero a (x ∷ xs) h =
      let e : same_name (name a) (name x) ≡ true = ap (λ y. same_name (name a) (name y)) (some_is x a h) ∙ same_name-self (name a) in
      let g : one_if (same_name (name a) (name x)) ≡ 1 = ap one_if e in
      omega (arith, g)
  stands (suc n) a (x ∷ xs) h = omega (arith, stands n a xs h)

  -- the first is no other of its name
  first_alone : (m : ℕ) (x a b : A) (xs : List A) → x ≡ a → nth xs m ≡ Some b → name a ≡ name b → times (name b) (name x ∷ map name xs) ≤ 1 → ⊥
  first_alone m x a b xs e h g f =
      let s : same_name (name b) (name x) ≡ true = ap (same_name (name b)) (ap name e ∙ g) ∙ same_name-self (name b) in
      let t : one_if (same_name (name b) (name x)) ≡ 1 = ap one_if s in
      let u = stands m b xs h in
      omega (arith, f, t, u)

  pub one_place : (xs : List A) → ((x : Name) → times x (map name xs) ≤ 1) → (n m : ℕ) (a b : A) → nth xs n ≡ Some a → nth xs m ≡ Some b → name a ≡ name b → n ≡ m
  one_place [] f n m a b h g e = absurd (cc)
  one_place (x ∷ xs) f zero zero a b h g e = refl
  one_place (x ∷ xs) f zero (suc m) a b h g e = absurd (first_alone m x a b xs (some_is x a h) g e (f (name b)))
  one_place (x ∷ xs) f (suc n) zero a b h g e = absurd (first_alone n x b a xs (some_is x b g) h (sym e) (f (name a)))
  one_place (x ∷ xs) f (suc n) (suc m) a b h g e = ap suc (one_place xs (λ y. omega (arith, f y)) n m a b h g e)
