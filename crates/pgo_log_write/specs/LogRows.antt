-- A log as it is written.
use Rattle.pgo_bundle.specs.BundleLog.{Two, BundleLog}

-- in version 2
abbrev pub as_two : BundleLog → BundleLog
as_two l = record {
  version = Two;
  start = l.start;
  notes = l.notes;
  entries = l.entries;
  accounts = l.accounts;
  status = l.status;
}
