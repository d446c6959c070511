-- How the records of a log's instances are tied to its entries and notes.
use Rattle.std.specs.Prelude.{◌≡◌, ◌≤◌, ◌<◌, ℕ, suc, length, Some}
use Rattle.pgo_model.specs.Outcome.{Kind}
use Rattle.pgo_model.specs.Machine.{nth}
use Rattle.pgo_bundle.specs.Accounts.{AttemptLine, StepLine, NoteLine, Account}
use Rattle.pgo_bundle.specs.BundleLog.{LoggedNote, LoggedEntry, BundleLog, notes_after}

-- the record of attempt a of instance k says this
abbrev pub Says : BundleLog → (k a : ℕ) → AttemptLine → Type 0
Says l k a x = (c : Account) × (i : ℕ) × (nth l.accounts k ≡ Some c) × (a ≡ suc i) × (nth c.attempts i ≡ Some x)

-- entry number i, from 1, is attempt a of instance k
abbrev pub IsEntryOf : BundleLog → (i k a : ℕ) → Type 0
IsEntryOf l i k a = (j : ℕ) × (e : LoggedEntry) × (i ≡ suc j) × (nth l.entries j ≡ Some e) × (e.entry.instance ≡ k) × (e.entry.attempt ≡ a)

-- note number j, from 0, of those with p entries before them is this
abbrev pub IsNoteAt : BundleLog → (p j : ℕ) → LoggedNote → Type 0
IsNoteAt l p j n = nth (notes_after l p) j ≡ Some n

-- a record and a later one of an instance: a step's number is above those of earlier steps and notes, and a note's is at least those
-- of earlier steps
abbrev pub Precedes : AttemptLine → AttemptLine → Type 0
Precedes (StepLine n) (StepLine q) = n < q
Precedes (NoteLine kind p) (StepLine q) = p < q
Precedes (StepLine n) (NoteLine kind q) = n ≤ q
Precedes x y = Unit {0}

pub record IsTied (l : BundleLog) : Type 0 where
  -- entry i is attempt a of k exactly where k's record a is `step i`
  pub entries : (i k a : ℕ) → IsEntryOf l i k a → Says l k a (StepLine i)
  pub steps : (i k a : ℕ) → Says l k a (StepLine i) → IsEntryOf l i k a
  -- a note of k, its attempt a and this kind has p entries before it exactly where k's record a says so; and each once
  pub notes : (p j : ℕ) (n : LoggedNote) → IsNoteAt l p j n → Says l n.instance n.attempt (NoteLine n.kind p)
  pub noted : (k a : ℕ) (kind : Kind) (p : ℕ) → Says l k a (NoteLine kind p) → (j : ℕ) × IsNoteAt l p j (record { instance = k; attempt = a; kind = kind })
  pub once : (p j q i : ℕ) (n m : LoggedNote) → IsNoteAt l p j n → IsNoteAt l q i m → n.instance ≡ m.instance → n.attempt ≡ m.attempt → (p ≡ q) × (j ≡ i)
  pub positions : (k a : ℕ) (kind : Kind) (p : ℕ) → Says l k a (NoteLine kind p) → p ≤ length l.entries
  -- of one instance
  pub ordered : (k a b : ℕ) (x y : AttemptLine) → Says l k a x → Says l k b y → a < b → Precedes x y
