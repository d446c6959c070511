-- The log of a bundle as it lies in memory, as what it stands for.
use Rattle.std.specs.Prelude.{map, Option, Some, None, option_map}
use Rattle.pgo_base.specs.View.{data_of}
use Rattle.pgo_model.specs.Core as core
use Rattle.pgo_model.specs.LogView.{entry_view}
use Rattle.pgo_syntax.specs.RecordView.{kind_view}
use Rattle.pgo_syntax.specs.declared.records.End.{End}
use Rattle.pgo_syntax.specs.declared.records.End.TheVariants as ends
use Rattle.pgo_bundle.specs.declared.log.Version as versions
use Rattle.pgo_bundle.specs.declared.log.Version.TheVariants as version
use Rattle.pgo_bundle.specs.declared.log.LoggedNote as notes
use Rattle.pgo_bundle.specs.declared.log.LoggedEntry as entries
use Rattle.pgo_bundle.specs.declared.log.Attempt as attempts
use Rattle.pgo_bundle.specs.declared.log.Attempt.TheVariants as attempt
use Rattle.pgo_bundle.specs.declared.log.Account as accounts
use Rattle.pgo_bundle.specs.declared.log.BundleLog as logs
use Rattle.pgo_bundle.specs.Accounts.{AttemptLine, StepLine, NoteLine, HeldLine, HeldLogLine, DownLine, FullLine, Account}
use Rattle.pgo_bundle.specs.BundleLog.{Version, One, Two, LoggedNote, LoggedEntry, BundleLog}

abbrev pub version_view : versions.Version → Version
version_view version.One = One
version_view version.Two = Two

abbrev pub logged_note_view : notes.LoggedNote → LoggedNote
logged_note_view n = record { instance = n.instance; attempt = n.attempt; kind = kind_view n.kind }

abbrev pub logged_entry_view : entries.LoggedEntry → LoggedEntry
logged_entry_view e = record { entry = entry_view e.entry; prints = e.prints; notes = map logged_note_view e.notes }

abbrev pub attempt_view : attempts.Attempt → AttemptLine
attempt_view (attempt.Step n) = StepLine n
attempt_view (attempt.Noted kind p) = NoteLine (kind_view kind) p
attempt_view (attempt.Held h x i) = HeldLine h x (option_map data_of i)
attempt_view (attempt.HeldJournal h) = HeldLogLine h
attempt_view (attempt.Down o x i) = DownLine o x (option_map data_of i)
attempt_view (attempt.Full n) = FullLine n

-- how an instance ended. Where memory was wanting, or nobody has the number, it has not
abbrev pub end_view : Option End → Option core.End
end_view (Some ends.Done) = Some core.Done
end_view (Some ends.Stopped) = Some core.Stopped
end_view (Some ends.Full) = Some core.JournalFull
end_view (Some ends.Spent) = Some core.Spent
end_view (Some ends.NoMemory) = None
end_view (Some ends.Nobody) = None
end_view None = None

abbrev pub account_view : accounts.Account → Account
account_view a = record { id = data_of a.id; finish = end_view a.end; attempts = map attempt_view a.attempts }

abbrev pub bundle_log_view : logs.BundleLog → BundleLog
bundle_log_view l = record {
  version = version_view l.version;
  start = l.start;
  notes = map logged_note_view l.notes;
  entries = map logged_entry_view l.entries;
  accounts = map account_view l.accounts;
  status = l.status;
}
