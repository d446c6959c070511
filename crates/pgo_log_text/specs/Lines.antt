-- The lines of a bundle from `init` on as functions on bytes, in the shape of the code.
use Rattle.std.specs.Prelude.{ℕ, zero, suc, Bool, true, false, ◌&&◌, nat_eq, if◌then◌else◌, List, [], ◌∷◌, ◌++◌, length, codes, Option, Some, None}
use Rattle.pgo_base.specs.Data.{Data}
use Rattle.pgo_base.specs.Lookup.{Name, Vars, same_name}
use Rattle.pgo_model.specs.Machine.{Entry, is_empty}
use Rattle.pgo_model.specs.Log.{Unowned, Change, Effect}
use Rattle.pgo_model.specs.Outcome.{Kind, Blocked, NoValue, AssertFails, Many}
use Rattle.pgo_model.specs.Core.{End, Done, Stopped, JournalFull, Spent}
use Rattle.pgo_model.specs.BundleParts.{is_run_status}
use Rattle.pgo_bundle.specs.Accounts.{AttemptLine, StepLine, NoteLine, HeldLine, HeldLogLine, DownLine, FullLine, Account}
use Rattle.pgo_bundle.specs.BundleLog.{Version, One, Two, LoggedNote, LoggedEntry, BundleLog}
use Rattle.pgo_log_text.specs.Parsers.{Parser, and_then, ◌>>=◌, ◌>>◌, pure}
use Rattle.pgo_log_text.specs.Bytes.{expect, begins, taken, number, name, value}

-- ---- fields

-- nothing, where the test passes
abbrev pub where_holds : Bool → Parser (Unit {0})
where_holds b = λ bs. if b then Some (tt, bs) else None

-- this number
unfoldable pub this_number : ℕ → Parser (Unit {0})
this_number wanted = do
  n ← number
  where_holds (nat_eq n wanted)

-- this number, and a blank
unfoldable pub this_field : ℕ → Parser (Unit {0})
this_field wanted = do
  this_number wanted
  expect (codes " ")

-- a number and a blank
unfoldable pub number_field : Parser ℕ
number_field = do
  n ← number
  expect (codes " ")
  pure n

-- a name and a blank
unfoldable pub name_field : Parser Name
name_field = do
  x ← name
  expect (codes " ")
  pure x

-- a number at the end of a line
unfoldable pub last_number : Parser ℕ
last_number = do
  n ← number
  expect (codes "\n")
  pure n

-- a value at the end of a line
unfoldable pub last_value : Parser Data
last_value = do
  v ← value
  expect (codes "\n")
  pure v

-- ---- the start

-- `x = value`
unfoldable pub variable_line : Name → Parser Data
variable_line x = do
  expect x
  expect (codes " = ")
  last_value

-- a line for each name, behind these
unfoldable pub start : List Name → Vars → Parser Vars
start [] done = pure done
start (x ∷ xs) done = do
  v ← variable_line x
  start xs (done ++ (x, v) ∷ [])

-- ---- the head

-- `x = value`, where x is any name
unfoldable pub constant_line : Parser (Name × Data)
constant_line = do
  x ← name
  expect (codes " = ")
  v ← last_value
  pure (x, v)

-- so many lines of constants behind these
unfoldable pub constants : ℕ → Vars → Parser Vars
constants zero done = pure done
constants (suc n) done = do
  p ← constant_line
  constants n (done ++ p ∷ [])

-- this word, which means that
unfoldable pub word_of : {A : Type 0} → List ℕ → A → Parser A
word_of word meaning = do
  expect word
  pure meaning

-- the line of the version
unfoldable pub version : Parser Version
version bs = if begins (codes "pgo 2\n") bs then word_of (codes "pgo 2\n") Two bs else word_of (codes "pgo 1\n") One bs

-- the constants
unfoldable pub constants_part : Parser Vars
constants_part = do
  expect (codes "consts ")
  n ← last_number
  constants n []

-- the version and the constants
unfoldable pub opening : Parser (Version × Vars)
opening = do
  v ← version
  cs ← constants_part
  pure (v, cs)

-- the bytes of the module
unfoldable pub module_part : Parser (List ℕ)
module_part = do
  expect (codes "module ")
  n ← last_number
  taken n

-- ---- entries

-- `[index]`
unfoldable pub index_part : Parser Data
index_part = do
  expect (codes "[")
  i ← value
  expect (codes "]")
  pure i

abbrev pub as_index : Data → Parser (Option Data)
as_index i = pure (Some i)

-- an index, or none
unfoldable pub index : Parser (Option Data)
index bs = if begins (codes "[") bs then and_then (index_part bs) as_index else Some (None, bs)

-- `set x = value` or `set x[index] = value`
unfoldable pub change : Parser Change
change = do
  expect (codes "set ")
  x ← name
  i ← index
  expect (codes " = ")
  v ← last_value
  pure (record { component = record { variable = x; index = i; owner = Unowned }; value = v })

-- so many changes behind these
unfoldable pub changes : ℕ → List Change → Parser (List Change)
changes zero done = pure done
changes (suc n) done = do
  c ← change
  changes n (done ++ c ∷ [])

-- the front of the line of entry number i: its instance, its attempt and its labels
unfoldable pub entry_front : ℕ → Parser (ℕ × ℕ × Name × Name)
entry_front i = do
  expect (codes "step ")
  this_field i
  k ← number_field
  a ← number_field
  l ← name_field
  m ← name_field
  pure (k, a, l, m)

abbrev pub entry_made : ℕ × ℕ × Name × Name → List Change → Entry Effect
entry_made f cs = record { instance = f.0; attempt = f.1; change = record { label = f.2; next = f.3; changes = cs; prints = [] } }

-- entry number i in version 1
unfoldable pub entry : ℕ → Parser LoggedEntry
entry i = do
  f ← entry_front i
  n ← last_number
  cs ← changes n []
  pure (record { entry = entry_made f cs; prints = None; notes = [] })

-- ---- parts while a word is next

-- the most entries, and the most accounts
abbrev pub most_parts : ℕ
most_parts = 4294967295

-- parts numbered from i on behind these, while this word is next, at most `left` of them
unfoldable pub parts : {A : Type 0} → List ℕ → (ℕ → Parser A) → (left i : ℕ) → List A → Parser (List A)
parts word part zero i done bs = if begins word bs then None else Some (done, bs)
parts word part (suc left) i done bs =
    if begins word bs then and_then (part i bs) (λ a. parts word part left (suc i) (done ++ a ∷ [])) else Some (done, bs)

-- ---- prints and notes

-- it isn't told what was printed
unfoldable pub untold : Parser (Option ℕ)
untold = word_of (codes "-\n") None

unfoldable pub told : Parser (Option ℕ)
told = do
  n ← last_number
  pure (Some n)

-- how many values were printed, where this is told
unfoldable pub prints_count : Parser (Option ℕ)
prints_count bs = if begins (codes "-") bs then untold bs else told bs

-- `print value`
unfoldable pub print : Parser Data
print = do
  expect (codes "print ")
  last_value

-- so many behind these
unfoldable pub prints : ℕ → List Data → Parser (List Data)
prints zero done = pure done
prints (suc n) done = do
  v ← print
  prints n (done ++ v ∷ [])

unfoldable pub all_prints : ℕ → Parser (Option (List Data))
all_prints n = do
  vs ← prints n []
  pure (Some vs)

unfoldable pub prints_told : Option ℕ → Parser (Option (List Data))
prints_told None bs = Some (None, bs)
prints_told (Some n) bs = all_prints n bs

-- what was found, at the end of a line
unfoldable pub found : Parser Kind
found bs =
    if begins (codes "blocked\n") bs then word_of (codes "blocked\n") Blocked bs
    else if begins (codes "novalue\n") bs then word_of (codes "novalue\n") NoValue bs
    else if begins (codes "assert\n") bs then word_of (codes "assert\n") AssertFails bs
    else word_of (codes "many\n") Many bs

-- `note k a kind`
unfoldable pub note : Parser LoggedNote
note = do
  expect (codes "note ")
  k ← number_field
  a ← number_field
  kind ← found
  pure (record { instance = k; attempt = a; kind = kind })

abbrev pub any_note : ℕ → Parser LoggedNote
any_note i = note

-- notes while one is next
abbrev pub notes : Parser (List LoggedNote)
notes bs = parts (codes "note ") any_note (length bs) 0 [] bs

-- the first line of entry number i in version 2 behind its labels, its changes and its prints
unfoldable pub entry_told : ℕ × ℕ × Name × Name → Parser (Entry Effect × Option (List Data))
entry_told f = do
  n ← number_field
  q ← prints_count
  cs ← changes n []
  vs ← prints_told q
  pure (entry_made f cs, vs)

-- entry number i in version 2
unfoldable pub logged_entry : ℕ → Parser LoggedEntry
logged_entry i = do
  f ← entry_front i
  e ← entry_told f
  ns ← notes
  pure (record { entry = e.0; prints = e.1; notes = ns })

abbrev pub entry_as : Version → ℕ → Parser LoggedEntry
entry_as One i = entry i
entry_as Two i = logged_entry i

abbrev pub first_notes : Version → Parser (List LoggedNote)
first_notes One bs = Some ([], bs)
first_notes Two bs = notes bs

abbrev pub entries : Version → (left i : ℕ) → List LoggedEntry → Parser (List LoggedEntry)
entries v = parts (codes "step ") (entry_as v)

-- ---- accounts

-- how an instance ended
unfoldable pub end_word : Parser (Option End)
end_word bs =
    if begins (codes "done ") bs then word_of (codes "done ") (Some Done) bs
    else if begins (codes "stopped ") bs then word_of (codes "stopped ") (Some Stopped) bs
    else if begins (codes "full ") bs then word_of (codes "full ") (Some JournalFull) bs
    else if begins (codes "spent ") bs then word_of (codes "spent ") (Some Spent) bs
    else word_of (codes "paused ") None bs

-- what a line says of an attempt by a number alone
pub data NumberWord : Type 0 where
  StepWord : NumberWord
  NoteWord : (kind : Kind) → NumberWord
  FullWord : NumberWord

abbrev pub said_by : NumberWord → ℕ → AttemptLine
said_by StepWord n = StepLine n
said_by (NoteWord kind) n = NoteLine kind n
said_by FullWord n = FullLine n

unfoldable pub number_word : Parser NumberWord
number_word bs =
    if begins (codes "step ") bs then word_of (codes "step ") StepWord bs
    else if begins (codes "note blocked ") bs then word_of (codes "note blocked ") (NoteWord Blocked) bs
    else if begins (codes "note novalue ") bs then word_of (codes "note novalue ") (NoteWord NoValue) bs
    else if begins (codes "note assert ") bs then word_of (codes "note assert ") (NoteWord AssertFails) bs
    else if begins (codes "many 65536 ") bs then word_of (codes "many 65536 ") (NoteWord Many) bs
    else word_of (codes "full ") FullWord bs

unfoldable pub number_form : Parser AttemptLine
number_form = do
  w ← number_word
  n ← last_number
  pure (said_by w n)

-- `x` or `x[index]` at the end of a line
unfoldable pub last_component : Parser (Name × Option Data)
last_component = do
  x ← name
  i ← index
  expect (codes "\n")
  pure (x, i)

unfoldable pub held_component : ℕ → Parser AttemptLine
held_component h = do
  c ← last_component
  pure (HeldLine h c.0 c.1)

-- what is held: a component, or the journal
unfoldable pub held_at : ℕ → Parser AttemptLine
held_at h bs = if begins (codes "$log") bs then word_of (codes "$log\n") (HeldLogLine h) bs else held_component h bs

unfoldable pub held_form : Parser AttemptLine
held_form = do
  expect (codes "held ")
  h ← number_field
  held_at h

unfoldable pub down_form : Parser AttemptLine
down_form = do
  expect (codes "down ")
  o ← number_field
  c ← last_component
  pure (DownLine o c.0 c.1)

-- what is said of an attempt
unfoldable pub attempt_form : Parser AttemptLine
attempt_form bs =
    if begins (codes "held ") bs then held_form bs
    else if begins (codes "down ") bs then down_form bs
    else number_form bs

-- the line of attempt a
unfoldable pub attempt_line : ℕ → Parser AttemptLine
attempt_line a = do
  this_field a
  attempt_form

-- the lines of attempts numbered from a on behind these
unfoldable pub attempts : (left a : ℕ) → List AttemptLine → Parser (List AttemptLine)
attempts zero a done = pure done
attempts (suc left) a done = do
  x ← attempt_line a
  attempts left (suc a) (done ++ x ∷ [])

-- the account of instance k
unfoldable pub account : ℕ → Parser Account
account k = do
  expect (codes "inst ")
  this_field k
  n ← number_field
  o ← end_word
  v ← last_value
  xs ← attempts n 1 []
  pure (record { id = v; finish = o; attempts = xs })

abbrev pub accounts : (left k : ℕ) → List Account → Parser (List Account)
accounts = parts (codes "inst ") account

-- ---- the whole

-- a status of a run
unfoldable pub run_status : Parser ℕ
run_status = do
  s ← number
  (λ i. if is_run_status s then Some (s, i) else None)

-- nothing behind it
unfoldable pub nothing_behind : ℕ → Parser ℕ
nothing_behind s bs = if is_empty bs then Some (s, bs) else None

-- the last line with the number of entries and the status, and nothing behind it
unfoldable pub finish : ℕ → Parser ℕ
finish steps = do
  expect (codes "end ")
  this_field steps
  s ← run_status
  expect (codes "\n")
  nothing_behind s

-- the line `init` with the number of variables
unfoldable pub heading : ℕ → Parser (Unit {0})
heading count = do
  expect (codes "init ")
  this_number count
  expect (codes "\n")

-- the lines from `init` to `end`, for these variables
unfoldable pub log_and_end : Version → List Name → Parser BundleLog
log_and_end v names = do
  heading (length names)
  s ← start names []
  ns ← first_notes v
  es ← entries v most_parts 1 []
  cs ← accounts most_parts 0 []
  status ← finish (length es)
  pure (record { version = v; start = s; notes = ns; entries = es; accounts = cs; status = status })

-- whether these are the constants' names, in order
abbrev pub are_named : Vars → List Name → Bool
are_named [] [] = true
are_named [] (x ∷ xs) = false
are_named (p ∷ ps) [] = false
are_named (p ∷ ps) (x ∷ xs) = same_name p.0 x && are_named ps xs

-- the lines from `init` to `end` for these constants, of a module with these constants and these variables
unfoldable pub log_of : Version → Vars → (constants variables : List Name) → Parser BundleLog
log_of v consts constants variables bs = if are_named consts constants then log_and_end v variables bs else None
