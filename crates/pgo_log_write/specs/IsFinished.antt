-- What a run leaves in memory, against what the core machine leaves.
use Rattle.std.specs.Prelude.{◌≡◌, ℕ, List, length, map, Some, option_map}
use Rattle.pgo_model.specs.Core as core
use Rattle.pgo_model.specs.Log.{Effect}
use Rattle.pgo_model.specs.Machine as machine
use Rattle.pgo_model.specs.System.{System}
pub use Rattle.pgo_syntax.specs.RecordView.{ended}
use Rattle.pgo_syntax.specs.RecordView.{result_view}
use Rattle.pgo_syntax.specs.declared.records.Record.{Record}
use Rattle.pgo_journal.specs.declared.finished.Account.{Account}
use Rattle.pgo_journal.specs.declared.finished.Finished.{Finished}

-- what became of an attempt
abbrev pub record_of : Record → machine.Record
record_of r = result_view r.result

abbrev pub records_of : Account → List machine.Record
records_of a = map record_of a.records

-- the journal has the system's start, the run's entries and its notes, and each member has an account, with its records and how
-- it ended
pub record IsFinished (y : System) (settings : core.Settings) (g : machine.Finished Effect) (f : Finished) : Type 0 where
  pub start : f.journal.start ≡ y.start
  pub entries : f.journal.entries ≡ g.entries
  pub notes : f.journal.notes ≡ g.notes
  pub count : length f.accounts ≡ length y.members
  pub records : (k : ℕ) (a : Account) → machine.nth f.accounts k ≡ Some a → records_of a ≡ g.records k
  pub ends : (k : ℕ) (a : Account) → machine.nth f.accounts k ≡ Some a → a.end ≡ option_map ended (core.end_of y settings g k)
