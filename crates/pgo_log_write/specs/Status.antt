-- The status of accounts as they lie in memory.
use Rattle.std.specs.Prelude.{ℕ, Bool, true, false, ◌&&◌, ◌||◌, if◌then◌else◌, List, [], ◌∷◌, Option, Some, option_map}
use Rattle.pgo_model.specs.Core.{end_by}
use Rattle.pgo_syntax.specs.declared.records.End.{End}
use Rattle.pgo_syntax.specs.declared.records.End.TheVariants as ends
use Rattle.pgo_journal.specs.declared.finished.Account.{Account}
use Rattle.pgo_log_write.specs.IsFinished.{ended, records_of}

abbrev pub is_stopped : Option End → Bool
is_stopped (Some ends.Stopped) = true
is_stopped e = false

abbrev pub is_full : Option End → Bool
is_full (Some ends.Full) = true
is_full e = false

abbrev pub is_done : Option End → Bool
is_done (Some ends.Done) = true
is_done e = false

-- the last record of some account shows that its instance has stopped
abbrev pub any_stopped : List Account → Bool
any_stopped [] = false
any_stopped (a ∷ list) = is_stopped (option_map ended (end_by (records_of a))) || any_stopped list

-- the last record of some account is the refusal Full
abbrev pub any_full : List Account → Bool
any_full [] = false
any_full (a ∷ list) = is_full (option_map ended (end_by (records_of a))) || any_full list

-- all have ended at Done
abbrev pub all_done : List Account → Bool
all_done [] = true
all_done (a ∷ list) = is_done a.end && all_done list

abbrev pub status_at : List Account → ℕ
status_at list = if any_stopped list then 20 else if any_full list then 23 else if all_done list then 0 else 21
