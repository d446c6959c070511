-- Where a log isn't tied: at the first record that breaks it, else at the first entry or note that no record names.
use Rattle.std.specs.Prelude.{ℕ, zero, suc, Bool, true, false, ◌&&◌, if◌then◌else◌, nat_eq, nat_lt, nat_le, max, List, [], ◌∷◌, length, Option, Some, None}
use Rattle.pgo_model.specs.Outcome.{Kind, Blocked, NoValue, AssertFails, Many}
use Rattle.pgo_model.specs.Machine.{nth}
use Rattle.pgo_model.specs.Options.{on}
pub use Rattle.pgo_bundle.specs.Accounts.{AttemptLine, StepLine, NoteLine, HeldLine, HeldLogLine, DownLine, FullLine, Account}
use Rattle.pgo_bundle.specs.BundleLog.{LoggedNote, LoggedEntry, BundleLog}

-- record a of instance k; entry number i; or note number j, from 0, of those with p entries before them
pub data Untied : Type 0 where
  AtRecord : (k a : ℕ) → Untied
  AtEntry : (i : ℕ) → Untied
  AtNote : (p j : ℕ) → Untied

-- ---- what entries and notes say of an attempt

-- nothing, one entry of this number, one note of this kind with so many entries before it, or several things
pub data Claim : Type 0 where
  Nothing : Claim
  OneStep : (n : ℕ) → Claim
  OneNote : (kind : Kind) (position : ℕ) → Claim
  Several : Claim

abbrev pub and_also : Claim → Claim → Claim
and_also Nothing c = c
and_also (OneStep n) c = Several
and_also (OneNote kind p) c = Several
and_also Several c = Several

abbrev pub is_of : (k a instance attempt : ℕ) → Bool
is_of k a j b = nat_eq j k && nat_eq b a

-- what is claimed, and what notes with p entries before them say besides
abbrev pub with_notes : (k a p : ℕ) → Claim → List LoggedNote → Claim
with_notes k a p c [] = c
with_notes k a p c (n ∷ ns) = with_notes k a p (if is_of k a n.instance n.attempt then and_also c (OneNote n.kind p) else c) ns

-- and what the entries from number i on, and the notes behind each, say
abbrev pub with_entries : (k a i : ℕ) → Claim → List LoggedEntry → Claim
with_entries k a i c [] = c
with_entries k a i c (e ∷ es) =
    with_entries k a (suc i) (with_notes k a i (if is_of k a e.entry.instance e.entry.attempt then and_also c (OneStep i) else c) e.notes) es

-- all that entries and notes say of attempt a of instance k
abbrev pub claim_of : BundleLog → (k a : ℕ) → Claim
claim_of l k a = with_entries k a 1 (with_notes k a 0 Nothing l.notes) l.entries

-- ---- records

abbrev pub same_kind : Kind → Kind → Bool
same_kind Blocked Blocked = true
same_kind NoValue NoValue = true
same_kind AssertFails AssertFails = true
same_kind Many Many = true
same_kind x y = false

-- a record says what is claimed of its attempt
abbrev pub says_so : Claim → AttemptLine → Bool
says_so (OneStep n) (StepLine m) = nat_eq n m
says_so (OneNote kind p) (NoteLine found q) = same_kind kind found && nat_eq p q
says_so Nothing (HeldLine h x i) = true
says_so Nothing (HeldLogLine h) = true
says_so Nothing (DownLine o x i) = true
says_so Nothing (FullLine n) = true
says_so c x = false

-- behind the number of the last step before it, and the most of any step or note before it
abbrev pub follows : (last most : ℕ) → AttemptLine → Bool
follows last most (StepLine n) = nat_lt most n
follows last most (NoteLine kind p) = nat_le last p
follows last most x = true

abbrev pub last_with : ℕ → AttemptLine → ℕ
last_with last (StepLine n) = n
last_with last x = last

abbrev pub most_with : ℕ → AttemptLine → ℕ
most_with most (StepLine n) = n
most_with most (NoteLine kind p) = max most p
most_with most x = most

-- the first of the records of instance k, from attempt a on, that says something else, or stands in another order
abbrev pub broken_from : BundleLog → (k a last most : ℕ) → List AttemptLine → Option ℕ
broken_from l k a last most [] = None
broken_from l k a last most (x ∷ xs) =
    if says_so (claim_of l k a) x && follows last most x then broken_from l k (suc a) (last_with last x) (most_with most x) xs else Some a

abbrev pub or_else : Option Untied → Option Untied → Option Untied
or_else None found = found
or_else (Some u) found = Some u

abbrev pub at_record : ℕ → Option ℕ → Option Untied
at_record k None = None
at_record k (Some a) = Some (AtRecord k a)

-- of the instances from k on
abbrev pub broken_records : BundleLog → ℕ → List Account → Option Untied
broken_records l k [] = None
broken_records l k (c ∷ cs) = or_else (at_record k (broken_from l k 1 0 0 c.attempts)) (broken_records l (suc k) cs)

-- ---- entries and notes without a record

-- so many records: one is of attempt a
abbrev pub has_attempt : List AttemptLine → ℕ → Bool
has_attempt xs zero = false
has_attempt xs (suc i) = nat_lt i (length xs)

abbrev pub is_recorded : List Account → (k a : ℕ) → Bool
is_recorded cs k a = on false (nth cs k) (λ c. has_attempt c.attempts a)

abbrev pub unnamed_entry : List Account → ℕ → List LoggedEntry → Option Untied
unnamed_entry cs i [] = None
unnamed_entry cs i (e ∷ es) = if is_recorded cs e.entry.instance e.entry.attempt then unnamed_entry cs (suc i) es else Some (AtEntry i)

abbrev pub unnamed_among : List Account → (p j : ℕ) → List LoggedNote → Option Untied
unnamed_among cs p j [] = None
unnamed_among cs p j (n ∷ ns) = if is_recorded cs n.instance n.attempt then unnamed_among cs p (suc j) ns else Some (AtNote p j)

abbrev pub unnamed_behind : List Account → ℕ → List LoggedEntry → Option Untied
unnamed_behind cs i [] = None
unnamed_behind cs i (e ∷ es) = or_else (unnamed_among cs i 0 e.notes) (unnamed_behind cs (suc i) es)

abbrev pub unnamed_note : List Account → List LoggedNote → List LoggedEntry → Option Untied
unnamed_note cs ns es = or_else (unnamed_among cs 0 0 ns) (unnamed_behind cs 1 es)

-- where the log isn't tied, if anywhere
abbrev pub untied_at : BundleLog → Option Untied
untied_at l = or_else (broken_records l 0 l.accounts) (or_else (unnamed_entry l.accounts 1 l.entries) (unnamed_note l.accounts l.notes l.entries))
