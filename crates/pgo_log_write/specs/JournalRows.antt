-- The notes of a journal by their places.
use Rattle.std.specs.Prelude.{suc, List, length}
use Rattle.pgo_bundle.specs.BundleLog.{LoggedNote}
use Rattle.pgo_bundle.specs.Positions.{by_position}
use Rattle.pgo_journal.specs.Journal.{JournalView}

abbrev pub notes_of : JournalView → List (List LoggedNote)
notes_of j = by_position 0 (suc (length j.entries)) j.notes
