-- The lines of a log by their places in its text.
use Rattle.std.specs.Prelude.{◌≡◌, ℕ, zero, suc, ◌+◌, List, [], ◌∷◌, length, take, codes, decimal, Some}
use Rattle.pgo_model.specs.Machine.{nth}
use Rattle.pgo_model.specs.Options.{on}
use Rattle.pgo_model.specs.Bundle.{fields}
use Rattle.pgo_model.specs.ModuleText.{Line, line}
use Rattle.pgo_bundle.specs.Accounts.{AttemptLine, Account, attempt_fields}
use Rattle.pgo_bundle.specs.BundleLog.{Version, One, Two, LoggedNote, LoggedEntry, BundleLog, notes_after}
use Rattle.pgo_bundle.specs.Lines.{prints_lines, step_line, note_line}
pub use Rattle.pgo_bundle.specs.Untied.{Untied, AtRecord, AtEntry, AtNote}

-- how many lines an entry has, without the notes behind it
abbrev pub own_size : Version → LoggedEntry → ℕ
own_size One e = suc (length e.entry.change.changes)
own_size Two e = suc (length e.entry.change.changes) + length (prints_lines e.prints)

-- how many lines notes have
abbrev pub notes_size : Version → List LoggedNote → ℕ
notes_size One ns = 0
notes_size Two ns = length ns

abbrev pub entries_size : Version → List LoggedEntry → ℕ
entries_size v [] = 0
entries_size v (e ∷ es) = own_size v e + notes_size v e.notes + entries_size v es

abbrev pub accounts_size : List Account → ℕ
accounts_size [] = 0
accounts_size (c ∷ cs) = suc (length c.attempts) + accounts_size cs

-- how many lines stand before the entries, from `init` on
abbrev pub front_size : BundleLog → ℕ
front_size l = suc (length l.start) + notes_size l.version l.notes

-- how many lines the entry behind p others has, without the notes behind it
abbrev pub own_size_at : BundleLog → (p : ℕ) → ℕ
own_size_at l p = on 0 (nth l.entries p) (own_size l.version)

-- how many lines of the log's text, from `init` on, stand before this place
abbrev pub lines_before : BundleLog → Untied → ℕ
lines_before l (AtRecord k a) = front_size l + entries_size l.version l.entries + accounts_size (take k l.accounts) + a
lines_before l (AtEntry zero) = 0
lines_before l (AtEntry (suc i)) = front_size l + entries_size l.version (take i l.entries)
lines_before l (AtNote zero j) = suc (length l.start) + j
lines_before l (AtNote (suc p) j) = front_size l + entries_size l.version (take p l.entries) + own_size_at l p + j

-- ---- what stands there

-- the first line of entry number n
abbrev pub entry_line : Version → ℕ → LoggedEntry → Line
entry_line One n e =
    line (fields (codes "step" ∷ decimal n ∷ decimal e.entry.instance ∷ decimal e.entry.attempt ∷ e.entry.change.label ∷ e.entry.change.next ∷ decimal (length e.entry.change.changes) ∷ []))
entry_line Two n e = step_line n e.entry e.prints

-- the line of a record, an entry or a note
abbrev pub IsLineAt : BundleLog → Untied → Line → Type 0
IsLineAt l (AtRecord k a) x = (c : Account) × (i : ℕ) × (r : AttemptLine) × (nth l.accounts k ≡ Some c) × (a ≡ suc i) × (nth c.attempts i ≡ Some r) × (x ≡ line (fields (decimal a ∷ attempt_fields r)))
IsLineAt l (AtEntry n) x = (j : ℕ) × (e : LoggedEntry) × (n ≡ suc j) × (nth l.entries j ≡ Some e) × (x ≡ entry_line l.version n e)
IsLineAt l (AtNote p j) x = (n : LoggedNote) × (l.version ≡ Two) × (nth (notes_after l p) j ≡ Some n) × (x ≡ note_line n)
