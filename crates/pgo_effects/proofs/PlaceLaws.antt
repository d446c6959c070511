-- A name that is looked up in one list and then in another.
use Rattle.std.proofs.Common.{◌≡◌, Bool, true, false, if◌then◌else◌, List, [], ◌∷◌, ◌++◌, Option, Some, None, option_map, refl, sym}
use Rattle.std.specs.Prelude.{is_some}
use Rattle.pgo_base.specs.Lookup.{Name, same_name, find}

module _ {A : Type 0} (x : Name) where
  found_first : (xs ys : List (Name × A)) (v : A) → find x xs ≡ Some v → find x (xs ++ ys) ≡ Some v
  found_first [] ys v e = absurd (cc)
  found_first (p ∷ xs) ys v e = go (same_name x p.0) e (λ h. found_first xs ys v h)
    where
      go : (b : Bool) → (if b then Some p.1 else find x xs) ≡ Some v → (find x xs ≡ Some v → find x (xs ++ ys) ≡ Some v) → (if b then Some p.1 else find x (xs ++ ys)) ≡ Some v
      go true e more = e
      go false e more = more e

  not_first : (xs ys : List (Name × A)) → find x xs ≡ None → find x (xs ++ ys) ≡ find x ys
  not_first [] ys e = refl
  not_first (p ∷ xs) ys e = go (same_name x p.0) e (λ h. not_first xs ys h)
    where
      go : (b : Bool) → (if b then Some p.1 else find x xs) ≡ None → (find x xs ≡ None → find x (xs ++ ys) ≡ find x ys) → (if b then Some p.1 else find x (xs ++ ys)) ≡ find x ys
      go true e more = absurd (cc)
      go false e more = more e

module _ {A H : Type 0} (x : Name) (see : H → A) (xs ys : List (Name × A)) where
  pub in_first : (r : Option H) → option_map see r ≡ find x xs → is_some r ≡ true → option_map see r ≡ find x (xs ++ ys)
  in_first None e h = absurd (cc)
  in_first (Some v) e h = sym (found_first x xs ys (see v) (sym e))

  pub in_second : (r : Option H) → option_map see r ≡ find x xs → is_some r ≡ false → find x ys ≡ find x (xs ++ ys)
  in_second None e h = sym (not_first x xs ys (sym e))
  in_second (Some v) e h = absurd (cc)
