-- The first of the reads that are left.
use Rattle.std.proofs.Common.{◌≡◌, ℕ, zero, suc, ◌<◌, ◌≤◌, List, [], ◌∷◌, refl, map, length, drop, get_or, arith}
use Rattle.pgo_code.specs.Steps as steps
use Rattle.pgo_code.specs.See.{unmapped_view}
use Rattle.pgo_code.specs.declared.instruction.Unmapped.{Unmapped}

pub read_here : (xs : List Unmapped) (n : ℕ) (d : Unmapped) → n < length xs → (ys : List steps.Unmapped) × (drop n (map unmapped_view xs) ≡ unmapped_view (get_or xs n d) ∷ ys)
read_here [] n d h = absurd (omega (arith, h))
read_here (x ∷ xs) zero d h = (map unmapped_view xs, refl)
read_here (x ∷ xs) (suc n) d h = read_here xs n d (omega (arith, h))

pub none_left : (xs : List Unmapped) (n : ℕ) → length xs ≤ n → drop n (map unmapped_view xs) ≡ []
none_left [] zero h = refl
none_left [] (suc n) h = refl
none_left (x ∷ xs) zero h = absurd (omega (arith, h))
none_left (x ∷ xs) (suc n) h = none_left xs n (omega (arith, h))
