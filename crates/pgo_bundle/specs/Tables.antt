-- The claims of all records, in the shape of the code.
use Rattle.std.specs.Prelude.{ℕ, zero, suc, ◌&&◌, if◌then◌else◌, List, [], ◌∷◌, map, Option, Some, None}
use Rattle.pgo_bundle.specs.Accounts.{AttemptLine, Account}
use Rattle.pgo_bundle.specs.BundleLog.{LoggedNote, LoggedEntry}
use Rattle.pgo_bundle.specs.Untied.{Untied, Claim, Nothing, OneStep, OneNote, and_also, says_so, follows, last_with, most_with, or_else, at_record}

-- a row of what is claimed of the attempts from a on
abbrev pub row_of : (ℕ → Claim) → (a : ℕ) → List AttemptLine → List Claim
row_of f a [] = []
row_of f a (x ∷ xs) = f a ∷ row_of f (suc a) xs

abbrev pub table_of : (ℕ → ℕ → Claim) → (k : ℕ) → List Account → List (List Claim)
table_of f k [] = []
table_of f k (c ∷ cs) = row_of (f k) 1 c.attempts ∷ table_of f (suc k) cs

-- this is claimed besides of attempt a, from 1
unfoldable pub put_in : (a : ℕ) → Claim → List Claim → List Claim
put_in zero c r = r
put_in (suc i) c [] = []
put_in (suc zero) c (x ∷ xs) = and_also x c ∷ xs
put_in (suc (suc i)) c (x ∷ xs) = x ∷ put_in (suc i) c xs

unfoldable pub put_claim : (k a : ℕ) → Claim → List (List Claim) → List (List Claim)
put_claim k a c [] = []
put_claim zero a c (r ∷ rs) = put_in a c r ∷ rs
put_claim (suc k) a c (r ∷ rs) = r ∷ put_claim k a c rs

unfoldable pub put_notes : (p : ℕ) → List LoggedNote → List (List Claim) → List (List Claim)
put_notes p [] t = t
put_notes p (n ∷ ns) t = put_notes p ns (put_claim n.instance n.attempt (OneNote n.kind p) t)

unfoldable pub put_entries : (i : ℕ) → List LoggedEntry → List (List Claim) → List (List Claim)
put_entries i [] t = t
put_entries i (e ∷ es) t = put_entries (suc i) es (put_notes i e.notes (put_claim e.entry.instance e.entry.attempt (OneStep i) t))

-- the first record from attempt a on that says something else than its claim, or stands in another order
abbrev pub broken_row : List Claim → (a last most : ℕ) → List AttemptLine → Option ℕ
broken_row [] a last most xs = None
broken_row (c ∷ r) a last most [] = None
broken_row (c ∷ r) a last most (x ∷ xs) =
    if says_so c x && follows last most x then broken_row r (suc a) (last_with last x) (most_with most x) xs else Some a

abbrev pub broken_rows : List (List Claim) → ℕ → List Account → Option Untied
broken_rows [] k cs = None
broken_rows (r ∷ rs) k [] = None
broken_rows (r ∷ rs) k (c ∷ cs) = or_else (at_record k (broken_row r 1 0 0 c.attempts)) (broken_rows rs (suc k) cs)

-- nothing is claimed
abbrev pub empty_row : List AttemptLine → List Claim
empty_row xs = map (λ x. Nothing) xs

abbrev pub empty_account : Account → List Claim
empty_account c = empty_row c.attempts
