-- The text of a bundle, version 1: the module, the committed steps, and an account of every attempt.
use Rattle.std.specs.Prelude.{ℕ, suc, nat_eq, if◌then◌else◌, List, [], ◌∷◌, ◌++◌, length, map, codes, decimal, Option, Some, None}
use Rattle.pgo_base.specs.Data.{Data}
use Rattle.pgo_base.specs.Lookup.{Name, Vars}
use Rattle.pgo_model.specs.ValueText.{value_text}
use Rattle.pgo_model.specs.Outcome.{Kind, Blocked, NoValue, AssertFails, Many}
use Rattle.pgo_model.specs.System.{System, Member, Resource}
use Rattle.pgo_model.specs.Machine.{Entry, Record, Step, Noted, Held, Down, Full, Finished, nth}
use Rattle.pgo_model.specs.Accounts.{journal}
use Rattle.pgo_model.specs.Log.{Component, Change, Effect}
use Rattle.pgo_model.specs.Core.{Settings, End, Done, Stopped, JournalFull, Spent, end_of}
use Rattle.pgo_model.specs.Module.{Module}
use Rattle.pgo_model.specs.ModuleText.{Line, line, flatten, module_lines, Text}

-- fields parted by one blank
abbrev pub fields : List (List ℕ) → List ℕ
fields [] = []
fields (f ∷ []) = f
fields (f ∷ (g ∷ fs)) = f ++ codes " " ++ fields (g ∷ fs)

abbrev pub value_line : Name × Data → Line
value_line p = line (p.0 ++ codes " = " ++ value_text p.1)

-- `x`, or `x[index]`
abbrev pub indexed_text : Name → Option Data → List ℕ
indexed_text x None = x
indexed_text x (Some i) = x ++ codes "[" ++ value_text i ++ codes "]"

abbrev pub component_text : Component → List ℕ
component_text c = indexed_text c.variable c.index

abbrev pub change_line : Change → Line
change_line c = line (codes "set " ++ component_text c.component ++ codes " = " ++ value_text c.value)

-- entry number n: its instance, its attempt, its labels, how many components it sets, and these
abbrev pub entry_lines : ℕ → Entry Effect → List Line
entry_lines n e =
    line (fields (codes "step" ∷ decimal n ∷ decimal e.instance ∷ decimal e.attempt ∷ e.change.label ∷ e.change.next ∷ decimal (length e.change.changes) ∷ []))
    ∷ map change_line e.change.changes

abbrev pub entries_lines : ℕ → List (Entry Effect) → List Line
entries_lines n [] = []
entries_lines n (e ∷ es) = entry_lines n e ++ entries_lines (suc n) es

-- the kind of a note; where it found too many leaves, the number of those that it tried (`most_leaves`)
abbrev pub kind_text : Kind → List ℕ
kind_text Blocked = codes "blocked"
kind_text NoValue = codes "novalue"
kind_text AssertFails = codes "assert"
kind_text Many = codes "65536"

-- the word before that
abbrev pub note_word : Kind → List ℕ
note_word Blocked = codes "note"
note_word NoValue = codes "note"
note_word AssertFails = codes "note"
note_word Many = codes "many"

abbrev pub resource_text : Option Resource → List ℕ
resource_text None = []
resource_text (Some r) = indexed_text r.global r.index

-- a resource by its component, the journal as `$log`
abbrev pub refused_text : List Resource → ℕ → List ℕ
refused_text rs r = if nat_eq r journal then codes "$log" else resource_text (nth rs r)

abbrev pub record_fields : List Resource → Record → List (List ℕ)
record_fields rs (Step n) = codes "step" ∷ decimal n ∷ []
record_fields rs (Noted kind p) = note_word kind ∷ kind_text kind ∷ decimal p ∷ []
record_fields rs (Held r h) = codes "held" ∷ decimal h ∷ refused_text rs r ∷ []
record_fields rs (Down r o) = codes "down" ∷ decimal o ∷ refused_text rs r ∷ []
record_fields rs (Full n) = codes "full" ∷ decimal n ∷ []

-- the records of an instance, from attempt a on
abbrev pub record_lines : List Resource → ℕ → List Record → List Line
record_lines rs a [] = []
record_lines rs a (x ∷ xs) = line (fields (decimal a ∷ record_fields rs x)) ∷ record_lines rs (suc a) xs

abbrev pub end_text : Option End → List ℕ
end_text (Some Done) = codes "done"
end_text (Some Stopped) = codes "stopped"
end_text (Some JournalFull) = codes "full"
end_text (Some Spent) = codes "spent"
end_text None = codes "paused"

-- the account of instance k
abbrev pub account_lines : System → Settings → Finished Effect → ℕ → Member → List Line
account_lines y settings f k i =
    line (fields (codes "inst" ∷ decimal k ∷ decimal (length (f.records k)) ∷ end_text (end_of y settings f k) ∷ value_text i.id ∷ []))
    ∷ record_lines y.resources 1 (f.records k)

abbrev pub accounts_lines : System → Settings → Finished Effect → ℕ → List Member → List Line
accounts_lines y settings f k [] = []
accounts_lines y settings f k (i ∷ is) = account_lines y settings f k i ++ accounts_lines y settings f (suc k) is

-- the lines of a bundle: version, constants, module, start and entries, the lines of the accounts, and the end
abbrev pub lines_of : Module → List (Name × Data) → Vars → List (Entry Effect) → (accounts : List Line) → (status : ℕ) → List Line
lines_of m consts start entries accounts status =
    (line (codes "pgo 1") ∷ line (codes "consts " ++ decimal (length consts)) ∷ []) ++ map value_line consts
    ++ (line (codes "module " ++ decimal (length (Text m))) ∷ []) ++ module_lines m
    ++ (line (codes "init " ++ decimal (length start)) ∷ []) ++ map value_line start
    ++ entries_lines 1 entries
    ++ accounts
    ++ (line (codes "end " ++ decimal (length entries) ++ codes " " ++ decimal status) ∷ [])

-- the lines of the bundle of what a run leaves
abbrev pub bundle_lines : Module → List (Name × Data) → System → Settings → Finished Effect → ℕ → List Line
bundle_lines m consts y settings f status = lines_of m consts y.start f.entries (accounts_lines y settings f 0 y.members) status

abbrev pub Bundle : Module → List (Name × Data) → System → Settings → Finished Effect → ℕ → List ℕ
Bundle m consts y settings f status = flatten (bundle_lines m consts y settings f status)
