-- The text of a bundle, line by line, in either version.
use Rattle.std.specs.Prelude.{ℕ, suc, List, [], ◌∷◌, ◌++◌, length, map, codes, decimal, Option, Some, None}
use Rattle.pgo_base.specs.Data.{Data}
use Rattle.pgo_base.specs.Lookup.{Vars}
use Rattle.pgo_model.specs.ValueText.{value_text}
use Rattle.pgo_model.specs.Outcome.{Kind, Blocked, NoValue, AssertFails, Many}
use Rattle.pgo_model.specs.Machine.{Entry}
use Rattle.pgo_model.specs.Log.{Effect}
use Rattle.pgo_model.specs.Module.{Module}
use Rattle.pgo_model.specs.ModuleText.{Line, line, flatten, Text}
use Rattle.pgo_model.specs.Bundle.{fields, value_line, change_line, entries_lines}
use Rattle.pgo_bundle.specs.Accounts.{read_accounts_lines}
use Rattle.pgo_bundle.specs.BundleLog.{Version, One, Two, LoggedNote, LoggedEntry, BundleLog}

abbrev pub version_line : Version → Line
version_line One = line (codes "pgo 1")
version_line Two = line (codes "pgo 2")

-- the lines before the module: its constants, and how many bytes it has
abbrev pub head_lines : Version → Vars → (size : ℕ) → List Line
head_lines v consts size =
    (version_line v ∷ line (codes "consts " ++ decimal (length consts)) ∷ []) ++ map value_line consts
    ++ (line (codes "module " ++ decimal size) ∷ [])

-- ---- entries and notes of version 2

abbrev pub found_text : Kind → List ℕ
found_text Blocked = codes "blocked"
found_text NoValue = codes "novalue"
found_text AssertFails = codes "assert"
found_text Many = codes "many"

abbrev pub note_line : LoggedNote → Line
note_line n = line (fields (codes "note" ∷ decimal n.instance ∷ decimal n.attempt ∷ found_text n.kind ∷ []))

-- how many values were printed, where this is told
abbrev pub prints_count : Option (List Data) → List ℕ
prints_count None = codes "-"
prints_count (Some vs) = decimal (length vs)

abbrev pub print_line : Data → Line
print_line v = line (codes "print " ++ value_text v)

abbrev pub prints_lines : Option (List Data) → List Line
prints_lines None = []
prints_lines (Some vs) = map print_line vs

-- the first line of entry number n
abbrev pub step_line : ℕ → Entry Effect → Option (List Data) → Line
step_line n e prints =
    line (fields (codes "step" ∷ decimal n ∷ decimal e.instance ∷ decimal e.attempt ∷ e.change.label ∷ e.change.next ∷ decimal (length e.change.changes) ∷ prints_count prints ∷ []))

-- entry number n: its labels, the components that it sets, what it printed, and the notes behind it
abbrev pub logged_lines : ℕ → LoggedEntry → List Line
logged_lines n e = step_line n e.entry e.prints ∷ (map change_line e.entry.change.changes ++ (prints_lines e.prints ++ map note_line e.notes))

abbrev pub all_logged_lines : ℕ → List LoggedEntry → List Line
all_logged_lines n [] = []
all_logged_lines n (e ∷ es) = logged_lines n e ++ all_logged_lines (suc n) es

-- ---- the whole

-- the entries. In version 1 notes and prints aren't told
abbrev pub steps_lines : Version → List LoggedNote → List LoggedEntry → List Line
steps_lines One ns es = entries_lines 1 (map (λ e. e.entry) es)
steps_lines Two ns es = map note_line ns ++ all_logged_lines 1 es

-- the lines behind the module: the start, the entries, the accounts, and the end
abbrev pub log_lines : BundleLog → List Line
log_lines l =
    (line (codes "init " ++ decimal (length l.start)) ∷ []) ++ map value_line l.start
    ++ steps_lines l.version l.notes l.entries
    ++ read_accounts_lines 0 l.accounts
    ++ (line (codes "end " ++ decimal (length l.entries) ++ codes " " ++ decimal l.status) ∷ [])

-- the bundle of a module in its canonical text
abbrev pub BundleText : Module → Vars → BundleLog → List ℕ
BundleText m consts l = flatten (head_lines l.version consts (length (Text m))) ++ (Text m ++ flatten (log_lines l))
