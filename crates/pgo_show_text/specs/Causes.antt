-- What refused attempts, with how many attempts are counted as each.
use Rattle.std.specs.Prelude.{ℕ, true, if◌then◌else◌, ◌≡◌, ◌<◌, ◌+◌, ◌^◌, List, [], ◌∷◌, ◌++◌, length, map, get_or, codes, decimal}
use Rattle.std.specs.List.{sum_by}
use Rattle.pgo_model.specs.ModuleText.{Line}
use Rattle.pgo_bundle.specs.Accounts.{AttemptLine}
use Rattle.pgo_bundle.specs.View.{attempt_view}
use Rattle.pgo_show_text.specs.declared.causes.Cause.{Cause}
use Rattle.pgo_show_text.specs.Facts.{causes, count_by, is_alike, is_alike_one, is_refused}
use Rattle.pgo_show_text.specs.Phrases.{cause_text}
use Rattle.pgo_show_text.specs.Shown.{joined}

abbrev pub line_of : Cause → AttemptLine
line_of c = attempt_view c.attempt.now

-- how many are counted as this cause, where it is like an attempt
abbrev pub counted_as : AttemptLine → Cause → ℕ
counted_as a c = if is_alike a (line_of c) then c.count else 0

-- how many are counted as causes that are like an attempt
abbrev pub counted : AttemptLine → List Cause → ℕ
counted a cs = sum_by (counted_as a) cs

-- how many are counted
abbrev pub all_counted : List Cause → ℕ
all_counted cs = sum_by (λ c. c.count) cs

-- a cause at this place is like an attempt
abbrev pub IsPlaceOf : AttemptLine → List Cause → ℕ → Type 0
IsPlaceOf a cs k = (k < length cs) × ((d : Cause) → is_alike (line_of (get_or cs k d)) a ≡ true)

-- one more attempt is counted, which is a cause where it is like none
abbrev pub IsOneMore : AttemptLine → (before after : List Cause) → Type 0
IsOneMore a cs ds =
    (map line_of ds ≡ (if is_alike_one a (map line_of cs) then map line_of cs else map line_of cs ++ a ∷ []))
    × ((b : AttemptLine) → counted b ds ≡ counted b cs + (if is_alike b a then 1 else 0))
    × (all_counted ds ≡ all_counted cs + 1)

-- these are the causes of the refusals among attempts, and each refusal like one is counted
abbrev pub AreCounted : List AttemptLine → List Cause → Type 0
AreCounted as' cs =
    (map line_of cs ≡ causes [] as')
    × ((b : AttemptLine) → is_refused b ≡ true → counted b cs ≡ count_by (is_alike b) as')
    × (all_counted cs < 2 ^ 64)

-- so many were refused by this, for this
abbrev pub counted_line : ℕ → AttemptLine → Line
counted_line n a = joined (codes "  refused " ∷ decimal n ∷ codes ": " ∷ cause_text a ∷ [])

abbrev pub line_in : List Cause → Cause → Line
line_in cs c = counted_line (counted (line_of c) cs) (line_of c)
