-- A product of bounded numbers.
use Rattle.std.proofs.Common.{◌≤◌, ℕ, ◌*◌, arith}
use Rattle.std.proofs.Math.Nat.{mul-le-mul_right}

pub bounded : (h b : ℕ) → h ≤ 44000030 → b ≤ 1000000 → h * b ≤ 44000030000000
bounded h b p q =
    let left : h * b ≤ 44000030 * b = mul-le-mul_right b p in
    omega (arith, left, q)
