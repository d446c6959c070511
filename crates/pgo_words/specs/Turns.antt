-- Lists of turns.
use Rattle.std.specs.Prelude.{◌<◌, ◌≤◌, ◌^◌, ℕ, List, ◌∷◌, [], ◌++◌, replicate, decimal}

-- `k`, or `k*n` for n turns of k; digits without sign or leading zeros
pub data Item : List ℕ → List ℕ → Type 0 where
  once : {k : ℕ} → k < 2 ^ 32 → Item (decimal k) (k ∷ [])
  times : {k n : ℕ} → k < 2 ^ 32 → 1 ≤ n → Item (decimal k ++ 42 ∷ decimal n) (replicate n k)

-- items separated by commas
pub data TurnList : List ℕ → List ℕ → Type 0 where
  last : {bs ts : List ℕ} → Item bs ts → TurnList bs ts
  more : {bs ts cs us : List ℕ} → Item bs ts → TurnList cs us → TurnList (bs ++ 44 ∷ cs) (ts ++ us)

abbrev pub most_turns : ℕ
most_turns = 1000000
