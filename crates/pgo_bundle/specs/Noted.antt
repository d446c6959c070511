-- A log with the notes that its records tell, in the shape of the code.
use Rattle.std.specs.Prelude.{◌<◌, ◌^◌, ℕ, suc, List, [], ◌∷◌, length, None}
use Rattle.pgo_model.specs.Machine.{nth}
use Rattle.pgo_model.specs.Options.{on}
use Rattle.pgo_bundle.specs.Accounts.{Account}
use Rattle.pgo_bundle.specs.BundleLog.{LoggedNote, LoggedEntry, BundleLog}
use Rattle.pgo_bundle.specs.Migrated.{migrated}

-- in the version that it has
abbrev pub noted : BundleLog → BundleLog
noted l = record {
  version = l.version;
  start = l.start;
  notes = (migrated l).notes;
  entries = (migrated l).entries;
  accounts = l.accounts;
  status = l.status;
}

-- the list at this place
abbrev pub place_of : (i : ℕ) → List (List LoggedNote) → List LoggedNote
place_of i t = on [] (nth t i) (λ ns. ns)

-- the entries from number i on, with the lists of their places behind them
abbrev pub placed_from : (i : ℕ) → List (List LoggedNote) → List LoggedEntry → List LoggedEntry
placed_from i t [] = []
placed_from i t (e ∷ es) = record { entry = e.entry; prints = None; notes = place_of i t } ∷ placed_from (suc i) t es

-- numbers of attempts are below 2^32
abbrev pub AllFew : List Account → Type 0
AllFew [] = Unit {0}
AllFew (c ∷ cs) = (length c.attempts < 2 ^ 32) × AllFew cs

-- and so are those of instances
abbrev pub AreFew : List Account → Type 0
AreFew cs = (length cs < 2 ^ 32) × AllFew cs
