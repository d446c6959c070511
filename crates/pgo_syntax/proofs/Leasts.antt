-- The least of lists: of two joined, and of one whose elements are changed and keep their places.
use Rattle.std.proofs.Common.{◌≡◌, ℕ, Bool, true, false, List, [], ◌∷◌, ◌++◌, map, Option, Some, None, ap, ◌∙◌, refl, arith}
use Rattle.std.specs.Prelude.{nat_lt, if◌then◌else◌, option_map}
use Rattle.pgo_syntax.specs.Least.{sooner_of, least}

module _ {A : Type 0} (place : A → ℕ) where
  abbrev of : Option A → Option A → Option A
  of = sooner_of place

  some_some : (x y z : A) → of (Some x) (of (Some y) (Some z)) ≡ of (of (Some x) (Some y)) (Some z)
  some_some x y z = grind arith

  pub sooner_assoc : (x y z : Option A) → of x (of y z) ≡ of (of x y) z
  sooner_assoc None y z = refl
  sooner_assoc (Some x) None z = refl
  sooner_assoc (Some x) (Some y) None = refl
  sooner_assoc (Some x) (Some y) (Some z) = some_some x y z

  pub sooner_none : (x : Option A) → of x None ≡ x
  sooner_none None = refl
  sooner_none (Some x) = refl

  pub least-append : (xs ys : List A) → least place (xs ++ ys) ≡ of (least place xs) (least place ys)
  least-append [] ys = refl
  least-append (x ∷ xs) ys = ap (of (Some x)) (least-append xs ys) ∙ sooner_assoc (Some x) (least place xs) (least place ys)

module _ {A B : Type 0} (place : A → ℕ) (spot : B → ℕ) (f : A → B) (keeps : (x : A) → spot (f x) ≡ place x) where
  picked : (b : Bool) (x y : A) → (if b then f y else f x) ≡ f (if b then y else x)
  picked true x y = refl
  picked false x y = refl

  sooner-map : (x : A) (y : Option A) → sooner_of spot (Some (f x)) (option_map f y) ≡ option_map f (sooner_of place (Some x) y)
  sooner-map x None = refl
  sooner-map x (Some y) = rw (keeps x, keeps y) (ap Some (picked (nat_lt (place y) (place x)) x y))

  pub least-map : (xs : List A) → least spot (map f xs) ≡ option_map f (least place xs)
  least-map [] = refl
  least-map (x ∷ xs) = ap (sooner_of spot (Some (f x))) (least-map xs) ∙ sooner-map x (least place xs)

module _ {A : Type 0} (place : A → ℕ) where
  -- where there is no least there is nothing
  pub least_empty : (xs : List A) → least place xs ≡ None → xs ≡ []
  least_empty [] h = refl
  least_empty (x ∷ xs) h = absurd (go (least place xs) h)
    where
      go : (o : Option A) → sooner_of place (Some x) o ≡ None → ⊥
      go None g = cc
      go (Some y) g = cc
