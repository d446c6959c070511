-- Lists of pre-commits that fail.
use Rattle.std.specs.Prelude.{◌≡◌, ◌<◌, ◌^◌, ℕ, List, ◌∷◌, [], ◌++◌, Option, Some, None, decimal}

-- `resource:number`, the number of a resource and that of the pre-commit at it; digits without sign or leading zeros
pub data Failure : List ℕ → ℕ × ℕ → Type 0 where
  pair : {r n : ℕ} → r < 2 ^ 32 → n < 2 ^ 32 → Failure (decimal r ++ 58 ∷ decimal n) (r, n)

-- items separated by commas
pub data FailureList : List ℕ → List (ℕ × ℕ) → Type 0 where
  last : {bs : List ℕ} {p : ℕ × ℕ} → Failure bs p → FailureList bs (p ∷ [])
  more : {bs cs : List ℕ} {p : ℕ × ℕ} {ps : List (ℕ × ℕ)} → Failure bs p → FailureList cs ps → FailureList (bs ++ 44 ∷ cs) (p ∷ ps)

-- none where no list is given
abbrev pub FailuresOr : Option (List ℕ) → List (ℕ × ℕ) → Type 0
FailuresOr None ps = ps ≡ []
FailuresOr (Some text) ps = FailureList text ps
