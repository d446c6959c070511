-- When two names are one, whether a name is in a list, lists in which no two are one, and what stands under a name in two lists together.
use Rattle.std.specs.Prelude.{◌≡◌, ℕ, Bool, true, false, ◌||◌, nat_eq, if◌then◌else◌, List, [], ◌∷◌, ◌++◌, Some, refl}
use Rattle.std.proofs.Common.{arith}
use Rattle.std.specs.List.{AllByRecursion}
use Rattle.std.proofs.lemmas.Bool.{and_parts}
use Rattle.pgo_base.specs.Lookup.{Name, same_name, find}
use Rattle.pgo_model.specs.ValueText.{same_bytes}
pub use Rattle.pgo_base.specs.Lookup.{or_that}
pub use Rattle.pgo_base.specs.SameName.{same_name-self, same_name-is, same_name-not, same_name_back, turned}

-- the name is one of these
abbrev pub is_among : Name → List Name → Bool
is_among x [] = false
is_among x (y ∷ ys) = same_name x y || is_among x ys

-- no two of these names are one
abbrev pub AreDifferent : List Name → Type 0
AreDifferent [] = Unit {0}
AreDifferent (x ∷ xs) = AllByRecursion (λ y. same_name x y ≡ false) xs × AreDifferent xs

pub same_bytes-self : (x : Name) → same_bytes x x ≡ true
same_bytes-self [] = refl
same_bytes-self (b ∷ bs) = let r = same_bytes-self bs in grind (arith, r)

number_is : (m n : ℕ) → nat_eq m n ≡ true → m ≡ n
number_is m n h = grind arith

pub same_bytes-is : (x y : Name) → same_bytes x y ≡ true → x ≡ y
same_bytes-is [] [] h = refl
same_bytes-is [] (y ∷ ys) h = absurd (grind (arith, h))
same_bytes-is (x ∷ xs) [] h = absurd (grind (arith, h))
same_bytes-is (x ∷ xs) (y ∷ ys) h =
    let p = and_parts (nat_eq x y) (same_bytes xs ys) h in
    let e = number_is x y p.0 in let f = same_bytes-is xs ys p.1 in λ i. e i ∷ f i

pub find_append : {A : Type 0} (x : Name) (xs ys : List (Name × A)) → find x (xs ++ ys) ≡ or_that (find x xs) (find x ys)
find_append x [] ys = refl
find_append {A} x (a ∷ xs) ys = go (same_name x a.0) (find_append x xs ys)
  where
    go : (b : Bool) → find x (xs ++ ys) ≡ or_that (find x xs) (find x ys) → (if b then Some a.1 else find x (xs ++ ys)) ≡ or_that (if b then Some a.1 else find x xs) (find x ys)
    go true ih = refl
    go false ih = ih
