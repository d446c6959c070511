-- What is asked of the parts of values, and of the literals that give them.
use Rattle.std.specs.Prelude.{◌≡◌, ◌≤◌, ℕ, ℤ, pos, ◌+ℤ◌, int_lt, Bool, false, IsTrue, List}
use Rattle.std.specs.Int.{int_div_euclid, int_rem_euclid}
use Rattle.pgo_model.specs.Operators.{fits_i64, most_members}
use Rattle.pgo_model.specs.Written.{default_init_value}

-- Which integers, which strings, also as names of fields, which model values, how many members of a set and how many pairs of a function.
--
-- Sums, differences and products are tested to have 64 bits, and all such integers are allowed. Ranges, quotients and remainders aren't tested:
-- what lies between two integers that are allowed is allowed, and so are a quotient of one and a remainder by one, where the divisor is at
-- least 1. What expressions build has few members and pairs (at most 65,536), and so many are allowed. Where so many members are allowed, so is
-- their number, as an integer, and so are as many pairs, or fewer.
pub record Limits : Type 0 where
  pub number : ℤ → Bool
  pub text : List ℕ → Bool
  pub model : List ℕ → Bool
  pub members : ℕ → Bool
  pub pairs : ℕ → Bool
  pub numbers_fit : (z : ℤ) → IsTrue (fits_i64 z) → IsTrue (number z)
  pub between : (y : ℤ) (k d : ℕ) → k ≤ d → IsTrue (number y) → IsTrue (number (y +ℤ pos d)) → IsTrue (number (y +ℤ pos k))
  pub quotients : (y z : ℤ) → int_lt z (pos 1) ≡ false → IsTrue (number y) → IsTrue (number (int_div_euclid y z))
  pub remainders : (y z : ℤ) → int_lt z (pos 1) ≡ false → IsTrue (number z) → IsTrue (number (int_rem_euclid y z))
  pub few_members : (n : ℕ) → n ≤ most_members → IsTrue (members n)
  pub few_pairs : (n : ℕ) → n ≤ most_members → IsTrue (pairs n)
  pub members_fit : (n : ℕ) → IsTrue (members n) → IsTrue (number (pos n))
  pub pairs_over : (m n : ℕ) → m ≤ n → IsTrue (members n) → IsTrue (pairs m)
  pub default : IsTrue (model default_init_value)
