-- What a sink holds after it took bytes.
use Rattle.std.specs.Prelude.{◌≡◌, ℕ, List, ◌++◌, take, ⊤, Option, Some, None}

-- Where the sink tells what it holds, it told that before too, and it holds that and then bs.
abbrev pub Grows : Option (List ℕ) → Option (List ℕ) → List ℕ → Type 0
Grows old None bs = ⊤
Grows None (Some ys) bs = ⊥
Grows (Some xs) (Some ys) bs = ys ≡ xs ++ bs

-- The same by a prefix of bs.
abbrev pub GrowsByPrefix : Option (List ℕ) → Option (List ℕ) → List ℕ → Type 0
GrowsByPrefix old new bs = (n : ℕ) × Grows old new (take n bs)
