-- The log of a bundle.
use Rattle.std.specs.Prelude.{ℕ, zero, suc, List, [], ◌∷◌, map, Option}
use Rattle.pgo_base.specs.Data.{Data}
use Rattle.pgo_base.specs.Lookup.{Vars}
use Rattle.pgo_model.specs.Outcome.{Kind}
use Rattle.pgo_model.specs.Machine.{Entry}
use Rattle.pgo_model.specs.Log.{Effect, Log}
use Rattle.pgo_bundle.specs.Accounts.{Account}

pub data Version : Type 0 where
  One Two : Version

-- a note: whose it is, its attempt, and what this found. How many entries stand before it is said by its place
pub record LoggedNote : Type 0 where
  pub instance : ℕ
  pub attempt : ℕ
  pub kind : Kind

-- an entry; what it printed, where this is told; and the notes behind it, before the next entry
pub record LoggedEntry : Type 0 where
  pub entry : Entry Effect
  pub prints : Option (List Data)
  pub notes : List LoggedNote

-- what a bundle says besides its module and its constants: its version, the starting state, the notes before the first entry, the
-- entries with the notes behind each, the account of each instance, and the status
pub record BundleLog : Type 0 where
  pub version : Version
  pub start : Vars
  pub notes : List LoggedNote
  pub entries : List LoggedEntry
  pub accounts : List Account
  pub status : ℕ

-- the part by which it is decided whether the log is a run
abbrev pub checked_log : BundleLog → Log
checked_log l = record { ids = map (λ a. a.id) l.accounts; start = l.start; entries = map (λ e. e.entry) l.entries }

-- the notes with p entries before them, of those before the first entry and those behind each
abbrev pub notes_from : List LoggedNote → List LoggedEntry → (p : ℕ) → List LoggedNote
notes_from ns es zero = ns
notes_from ns [] (suc p) = []
notes_from ns (e ∷ es) (suc p) = notes_from e.notes es p

abbrev pub notes_after : BundleLog → (p : ℕ) → List LoggedNote
notes_after l p = notes_from l.notes l.entries p
