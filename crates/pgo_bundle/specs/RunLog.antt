-- The log of what a run leaves.
use Rattle.std.specs.Prelude.{ℕ, suc, codes, Bool, true, ◌&&◌, nat_eq, nat_le, if◌then◌else◌, List, [], ◌∷◌, map, Option, Some, None}
use Rattle.pgo_base.specs.Data.{Data}
use Rattle.pgo_base.specs.Size.{depth}
use Rattle.pgo_model.specs.System.{System, Member, Resource, ids_of}
use Rattle.pgo_model.specs.Machine.{Entry, Note, Record, Step, Noted, Held, Down, Full, Finished, nth}
use Rattle.pgo_model.specs.Accounts.{journal}
use Rattle.pgo_model.specs.Core.{Settings, end_of}
use Rattle.pgo_model.specs.Log.{Unowned, Change, Effect, Log}
use Rattle.pgo_bundle.specs.Accounts.{AttemptLine, StepLine, NoteLine, HeldLine, HeldLogLine, DownLine, FullLine, Account}
use Rattle.pgo_bundle.specs.BundleLog.{Two, LoggedNote, LoggedEntry, BundleLog}

-- ---- entries

-- a change of nobody's component
abbrev pub unowned : Change → Change
unowned c = record {
  component = record { variable = c.component.variable; index = c.component.index; owner = Unowned };
  value = c.value;
}

-- an entry as its lines have it: without whose a component is, and what was printed apart
abbrev pub entry_read : Entry Effect → Entry Effect
entry_read e = record {
  instance = e.instance;
  attempt = e.attempt;
  change = record { label = e.change.label; next = e.change.next; changes = map unowned e.change.changes; prints = [] };
}

-- no value is nested deeper than 1,024
abbrev pub are_shallow : List Data → Bool
are_shallow [] = true
are_shallow (v ∷ vs) = nat_le (depth v) 1024 && are_shallow vs

-- what was printed, where none of it is nested deeper
abbrev pub told_prints : List Data → Option (List Data)
told_prints vs = if are_shallow vs then Some vs else None

-- ---- notes

-- of these notes those with p entries before them, in order
abbrev pub notes_at : (p : ℕ) → List Note → List LoggedNote
notes_at p [] = []
notes_at p (n ∷ ns) = if nat_eq n.position p then record { instance = n.instance; attempt = n.attempt; kind = n.kind } ∷ notes_at p ns else notes_at p ns

-- the entries from number i on, with the notes behind each
abbrev pub logged_from : (i : ℕ) → List Note → List (Entry Effect) → List LoggedEntry
logged_from i ns [] = []
logged_from i ns (e ∷ es) = record { entry = entry_read e; prints = told_prints e.change.prints; notes = notes_at i ns } ∷ logged_from (suc i) ns es

-- ---- records

abbrev pub held_by : (holder : ℕ) → Option Resource → AttemptLine
held_by h None = HeldLine h [] None
held_by h (Some q) = HeldLine h q.global q.index

abbrev pub down_at : (operation : ℕ) → Option Resource → AttemptLine
down_at o None = DownLine o [] None
down_at o (Some q) = DownLine o q.global q.index

-- a resource by its component, the journal by none; a number that names neither as no name
abbrev pub attempt_of : List Resource → Record → AttemptLine
attempt_of rs (Step n) = StepLine n
attempt_of rs (Noted kind p) = NoteLine kind p
attempt_of rs (Held r h) = if nat_eq r journal then HeldLogLine h else held_by h (nth rs r)
attempt_of rs (Down r o) = if nat_eq r journal then DownLine o (codes "$log") None else down_at o (nth rs r)
attempt_of rs (Full n) = FullLine n

-- the accounts of the members from number k on
abbrev pub accounts_from : System → Settings → Finished Effect → (k : ℕ) → List Member → List Account
accounts_from y settings f k [] = []
accounts_from y settings f k (i ∷ is) =
    record { id = i.id; finish = end_of y settings f k; attempts = map (attempt_of y.resources) (f.records k) } ∷ accounts_from y settings f (suc k) is

-- ---- the whole

-- the part that is checked: the run's entries, without whose a component is and without what was printed
abbrev pub log_of : System → List (Entry Effect) → Log
log_of y entries = record { ids = ids_of y; start = y.start; entries = map entry_read entries }

abbrev pub run_log : System → Settings → Finished Effect → (status : ℕ) → BundleLog
run_log y settings f status = record {
  version = Two;
  start = y.start;
  notes = notes_at 0 f.notes;
  entries = logged_from 1 f.notes f.entries;
  accounts = accounts_from y settings f 0 y.members;
  status = status;
}
