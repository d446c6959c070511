-- What a journal shows to contracts.
use Rattle.std.specs.Prelude.{◌≡◌, ◌≤◌, ◌<◌, ◌^◌, ℕ, List, [], ◌∷◌, ◌++◌, length, map, Option, Some}
use Rattle.pgo_base.specs.Lookup.{Vars}
use Rattle.pgo_base.specs.declared.log.Entry as base_entry
use Rattle.pgo_syntax.specs.declared.records.Note as base_note
use Rattle.pgo_model.specs.Log.{Effect, After, StateAt}
use Rattle.pgo_model.specs.LogView.{entry_view}
use Rattle.pgo_model.specs.Machine.{Entry, Note}
use Rattle.pgo_syntax.specs.RecordView.{note_view}

pub record JournalView : Type 0 where
  -- the state before the first entry
  pub start : Vars
  pub entries : List (Entry Effect)
  pub notes : List Note
  -- at how many entries it is full, and for how many notes there is room
  pub steps : ℕ
  pub room : ℕ

abbrev pub seen : Vars → List base_entry.Entry → List base_note.Note → ℕ → ℕ → JournalView
seen s es ns steps room = record { start = s; entries = map entry_view es; notes = map note_view ns; steps = steps; room = room }

abbrev pub opened : Vars → ℕ → ℕ → JournalView
opened s steps room = record { start = s; entries = []; notes = []; steps = steps; room = room }

abbrev pub with_entry : Entry Effect → JournalView → JournalView
with_entry e j = record { start = j.start; entries = j.entries ++ e ∷ []; notes = j.notes; steps = j.steps; room = j.room }

abbrev pub with_note : Note → JournalView → JournalView
with_note n j = record { start = j.start; entries = j.entries; notes = j.notes ++ n ∷ []; steps = j.steps; room = j.room }

-- the note with this position
abbrev pub placed : ℕ → Note → Note
placed p n = record { instance = n.instance; attempt = n.attempt; kind = n.kind; position = p }

-- the state after all entries
abbrev pub last_state : JournalView → Option Vars
last_state j = StateAt j.start j.entries (length j.entries)

-- there is a state after the entry: each component that it changes stands in the last state
pub record MayAppend (j : JournalView) (e : Entry Effect) : Type 0 where
  pub before : Vars
  pub after : Vars
  pub from : last_state j ≡ Some before
  pub to : After before e.change ≡ Some after

-- a journal and its rooms in memory: there are no more entries and notes than it says, their numbers have 32 bits, and
-- there is a state after all entries
pub record IsSound (j : JournalView) (entry_room note_room : ℕ) : Type 0 where
  pub counted : j.steps < 2 ^ 32
  pub filled : length j.entries ≤ j.steps
  pub noted : length j.notes ≤ j.room
  pub entries_fit : j.steps ≤ entry_room
  pub notes_fit : j.room ≤ note_room
  pub state : Vars
  pub reached : last_state j ≡ Some state
