-- Calls that are counted, some of which are to fail.
use Rattle.std.specs.Prelude.{ℕ, ◌+◌, ◌-◌, ◌^◌, min, List, Contains}

-- the numbers of the calls that are to fail, counted from 1; how many were made, and how many of these failed
pub record Counts : Type 0 where
  pub failing : List ℕ
  pub made : ℕ
  pub faults : ℕ

-- A count that rises by one. It stands still at the last value of a `u64`.
abbrev pub one_more : ℕ → ℕ
one_more n = min (n + 1) (2 ^ 64 - 1)

-- The number of the next call is among those that are to fail.
abbrev pub IsListed : Counts → Type 0
IsListed calls = Contains calls.failing (one_more calls.made)

-- the counts after one more call that succeeds
abbrev pub with_success : Counts → Counts
with_success calls = record calls { made = one_more calls.made }

-- the counts after one more call that fails
abbrev pub with_fault : Counts → Counts
with_fault calls = record calls { made = one_more calls.made; faults = one_more calls.faults }
