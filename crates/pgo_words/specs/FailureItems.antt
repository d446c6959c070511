-- That a list of pre-commits that fail is read in the one way that its text has, item by item.
use Rattle.std.specs.Prelude.{◌≡◌, ◌<◌, ◌^◌, ◌++◌, ℕ, List, decimal, Option, Some, None}
use Rattle.pgo_words.specs.Failures.{Failure, FailureList, FailuresOr}

-- the texts are this resource's number and this pre-commit's, and no others
abbrev pub ReadsPair : List ℕ → List ℕ → Option (ℕ × ℕ) → Type 0
ReadsPair bs cs None = (r n : ℕ) → r < 2 ^ 32 → n < 2 ^ 32 → bs ≡ decimal r → cs ≡ decimal n → ⊥
ReadsPair bs cs (Some p) =
    (bs ≡ decimal p.0) × (cs ≡ decimal p.1) × (p.0 < 2 ^ 32) × (p.1 < 2 ^ 32)
    × ((r n : ℕ) → r < 2 ^ 32 → n < 2 ^ 32 → bs ≡ decimal r → cs ≡ decimal n → (r ≡ p.0) × (n ≡ p.1))

-- the text is this item and no other
abbrev pub ReadsFailure : List ℕ → Option (ℕ × ℕ) → Type 0
ReadsFailure bs None = (p : ℕ × ℕ) → Failure bs p → ⊥
ReadsFailure bs (Some q) = Failure bs q × ((p : ℕ × ℕ) → Failure bs p → p ≡ q)

-- what is read so far, and what is left, are the text's pairs together
pub record ReadsPairs (bs : List ℕ) (read : List (ℕ × ℕ)) (rest : List ℕ) : Type 0 where
  pub sound : (qs : List (ℕ × ℕ)) → FailureList rest qs → FailureList bs (read ++ qs)
  pub only : (ps : List (ℕ × ℕ)) → FailureList bs ps → (qs : List (ℕ × ℕ)) × FailureList rest qs × (ps ≡ read ++ qs)

-- the text of a list, or that there is none, gives these pairs and no others
abbrev pub FailuresOnly : Option (List ℕ) → Option (List (ℕ × ℕ)) → Type 0
FailuresOnly value None = (ps : List (ℕ × ℕ)) → FailuresOr value ps → ⊥
FailuresOnly value (Some qs) = FailuresOr value qs × ((ps : List (ℕ × ℕ)) → FailuresOr value ps → ps ≡ qs)
