-- The first of several lists.
use Rattle.std.proofs.Common.{◌≡◌, Bool, true, false, List, [], ◌∷◌, ◌++◌, map, Some, None, option_map, refl, ap}
use Rattle.std.specs.List.{list_any}
use Rattle.pgo_heads.specs.Refusals.{first}

pub first_found : {A B : Type 0} (f : A → B) (xs : List A) (ys : List B) (x : A) → first xs ≡ Some x → first (map f xs ++ ys) ≡ Some (f x)
first_found f [] ys x h = absurd (cc)
first_found f (y ∷ xs) ys x h = ap (option_map f) h

pub first_none : {A B : Type 0} (f : A → B) (xs : List A) (ys : List B) → first xs ≡ None → first (map f xs ++ ys) ≡ first ys
first_none f [] ys h = refl
first_none f (x ∷ xs) ys h = absurd (cc)

any_false : {A : Type 0} (xs : List A) → list_any (λ x. false) xs ≡ false
any_false [] = refl
any_false (x ∷ xs) = any_false xs

-- what is the same at each is so at some, where there is one
pub any_constant : {A : Type 0} (b : Bool) (x : A) (xs : List A) → b ≡ list_any (λ y. b) (x ∷ xs)
any_constant true x xs = refl
any_constant false x xs = let e = any_false xs in cc
