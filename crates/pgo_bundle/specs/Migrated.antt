-- A log of version 1 brought over to version 2: its prints aren't told, and its notes are those that its records tell, by position, of one
-- position by instance, and of one instance by attempt.
use Rattle.std.specs.Prelude.{ℕ, suc, List, [], ◌∷◌, ◌++◌, None}
use Rattle.pgo_model.specs.Machine.{Note}
use Rattle.pgo_bundle.specs.Accounts.{AttemptLine, NoteLine, Account}
use Rattle.pgo_bundle.specs.BundleLog.{Two, LoggedEntry, BundleLog}
use Rattle.pgo_bundle.specs.RunLog.{notes_at}

-- the note that the record of attempt a of instance k tells
abbrev pub note_told : (k a : ℕ) → AttemptLine → List Note
note_told k a (NoteLine kind p) = record { instance = k; attempt = a; kind = kind; position = p } ∷ []
note_told k a x = []

-- the notes that the records of instance k tell, from attempt a on
abbrev pub notes_told : (k a : ℕ) → List AttemptLine → List Note
notes_told k a [] = []
notes_told k a (x ∷ xs) = note_told k a x ++ notes_told k (suc a) xs

-- those of the instances from k on
abbrev pub all_told : (k : ℕ) → List Account → List Note
all_told k [] = []
all_told k (c ∷ cs) = notes_told k 1 c.attempts ++ all_told (suc k) cs

-- the entries from number i on, with the notes behind each
abbrev pub migrated_from : (i : ℕ) → List Note → List LoggedEntry → List LoggedEntry
migrated_from i ns [] = []
migrated_from i ns (e ∷ es) = record { entry = e.entry; prints = None; notes = notes_at i ns } ∷ migrated_from (suc i) ns es

abbrev pub migrated : BundleLog → BundleLog
migrated l = record {
  version = Two;
  start = l.start;
  notes = notes_at 0 (all_told 0 l.accounts);
  entries = migrated_from 1 (all_told 0 l.accounts) l.entries;
  accounts = l.accounts;
  status = l.status;
}
