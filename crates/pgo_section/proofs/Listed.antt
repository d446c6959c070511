-- Pairs that are listed.
use Rattle.std.proofs.Common.{◌≡◌, ◌<◌, ℕ, Bool, true, false, List, [], ◌∷◌, ◌++◌, refl, ap, subst, arith}
use Rattle.std.specs.Prelude.{◌||◌, ◌&&◌, nat_eq}
use Rattle.pgo_model.specs.Core.{is_listed}
use Rattle.pgo_model.specs.MachineAccounts.{equal_or}

or_right : (a b : Bool) → b ≡ true → (a || b) ≡ true
or_right true b e = refl
or_right false b e = e

-- one more, with a number below the bound
pub listed_more : (bound : ℕ) (l : List (ℕ × ℕ)) (p : ℕ × ℕ) → p.1 < bound → ((r n : ℕ) → is_listed l r n ≡ true → n < bound) → (r n : ℕ) → is_listed (l ++ (p ∷ [])) r n ≡ true → n < bound
listed_more bound [] p h f r n e = last (nat_eq p.0 r) (nat_eq p.1 n) refl e
  where
    last : (a b : Bool) → nat_eq p.1 n ≡ b → ((a && b) || false) ≡ true → n < bound
    last true true q e = subst (λ n. n < bound) ((equal_or p.1 n true q).0 refl) h
    last true false q e = absurd (grind (arith, e))
    last false true q e = absurd (grind (arith, e))
    last false false q e = absurd (grind (arith, e))
listed_more bound (x ∷ l) p h f r n e = go (nat_eq x.0 r && nat_eq x.1 n) refl e (listed_more bound l p h (λ r n e. f r n (or_right (nat_eq x.0 r && nat_eq x.1 n) (is_listed l r n) e)) r n)
  where
    go : (b : Bool) → (nat_eq x.0 r && nat_eq x.1 n) ≡ b → (b || is_listed (l ++ (p ∷ [])) r n) ≡ true → (is_listed (l ++ (p ∷ [])) r n ≡ true → n < bound) → n < bound
    go true q e ih = f r n (ap (λ b. b || is_listed l r n) q)
    go false q e ih = ih e
