-- Sums that stop at the last number.
use Rattle.std.proofs.Common.{◌≡◌, ◌+◌, ℕ, min, arith}

pub sum_two : (m x y a b r : ℕ) → a ≡ min x m → b ≡ min y m → r ≡ min (a + b) m → r ≡ min (x + y) m
sum_two m x y a b r ha hb h = omega (arith, ha, hb, h)

pub sum_one : (m x n a r : ℕ) → a ≡ min x m → r ≡ min (a + n) m → r ≡ min (x + n) m
sum_one m x n a r ha h = omega (arith, ha, h)

pub sum_behind : (m n x a r : ℕ) → a ≡ min x m → r ≡ min (n + a) m → r ≡ min (n + x) m
sum_behind m n x a r ha h = omega (arith, ha, h)
