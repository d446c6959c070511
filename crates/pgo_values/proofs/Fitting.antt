-- Integers of 64 bits: numbers of members, integers between two, quotients and remainders.
use Rattle.std.proofs.Common.{◌≡◌, ℕ, suc, ◌+◌, ◌-◌, ◌<◌, ◌≤◌, ◌/◌, ◌%◌, ◌^◌, ltb, ℤ, pos, negsuc, ◌+ℤ◌, int_lt, Bool, true, false, cond, refl, arith}
use Rattle.std.proofs.lemmas.Bool.Decides.{nat_tests}
use Rattle.std.specs.Int.{int_div_euclid, int_rem_euclid}
use Rattle.std.specs.Prelude.{IsTrue, nat_lt}
use Rattle.pgo_model.specs.Operators.{fits_i64}

pub low : (n : ℕ) → nat_lt n (2 ^ 63) ≡ true → n < 2 ^ 63
low n h = grind (arith, nat_tests)

pub low_test : (n : ℕ) → n < 2 ^ 63 → nat_lt n (2 ^ 63) ≡ true
low_test n h = grind (arith, nat_tests)

-- what is between two integers of 64 bits is one
pub between : (a : ℤ) (k d : ℕ) → k ≤ d → IsTrue (fits_i64 a) → IsTrue (fits_i64 (a +ℤ pos d)) → IsTrue (fits_i64 (a +ℤ pos k))
between (pos a) k d l h g = low_test (a + k) (let m = low (a + d) g in omega (arith, m, l))
between (negsuc a) k d l h g = go (ltb k (suc a)) refl (ltb d (suc a)) refl g
  where
    go : (b : Bool) → ltb k (suc a) ≡ b → (c : Bool) → ltb d (suc a) ≡ c → IsTrue (fits_i64 (cond c (negsuc (suc a - suc d)) (pos (d - suc a)))) → IsTrue (fits_i64 (cond b (negsuc (suc a - suc k)) (pos (k - suc a))))
    go true e c f g = low_test (suc a - suc k) (let m = low a h in omega (arith, m))
    go false e true f g =
        absurd (let x : k < suc a → ⊥ = (λ q. let z : ltb k (suc a) ≡ true = grind (arith, nat_tests) in grind (arith, z, e)) in let y : d < suc a = grind (arith, nat_tests) in x (omega (arith, y, l)))
    go false e false f g = low_test (k - suc a) (let m = low (d - suc a) g in omega (arith, m, l))

-- ---- quotients and remainders by a divisor that is at least 1

quotient_low : (a b : ℕ) → 0 < b → a / b ≤ a
quotient_low a b h = omega arith

remainder_low : (a b : ℕ) → 0 < b → a % b < b
remainder_low a b h = omega arith

pub divided : (y z : ℤ) → int_lt z (pos 1) ≡ false → IsTrue (fits_i64 y) → IsTrue (fits_i64 (int_div_euclid y z))
divided (pos a) (pos b) l h = low_test (a / b) (let m = low a h in let p : 0 < b = positive b l in let q = quotient_low a b p in omega (arith, m, q))
  where
    positive : (b : ℕ) → nat_lt b 1 ≡ false → 0 < b
    positive b l = grind (arith, nat_tests)
divided (negsuc a) (pos b) l h = low_test (a / b) (let m = low a h in let p : 0 < b = positive b l in let q = quotient_low a b p in omega (arith, m, q))
  where
    positive : (b : ℕ) → nat_lt b 1 ≡ false → 0 < b
    positive b l = grind (arith, nat_tests)
divided y (negsuc b) l h = absurd (cc)

pub remainder : (y z : ℤ) → int_lt z (pos 1) ≡ false → IsTrue (fits_i64 z) → IsTrue (fits_i64 (int_rem_euclid y z))
remainder (pos a) (pos b) l h = low_test (a % b) (let m = low b h in let p : 0 < b = positive b l in let q = remainder_low a b p in omega (arith, m, q))
  where
    positive : (b : ℕ) → nat_lt b 1 ≡ false → 0 < b
    positive b l = grind (arith, nat_tests)
remainder (negsuc a) (pos b) l h = low_test (b - 1 - a % b) (let m = low b h in omega (arith, m))
remainder y (negsuc b) l h = absurd (cc)
