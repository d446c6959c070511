-- Notes, records and settings as they lie in memory, as what they stand for in the core machine; and ends of instances, as they lie there.
use Rattle.std.specs.Prelude.{ℕ}
use Rattle.pgo_syntax.specs.declared.records.NoteKind as kinds
use Rattle.pgo_syntax.specs.declared.records.NoteKind.TheVariants as kind
use Rattle.pgo_syntax.specs.declared.records.Note as notes
use Rattle.pgo_syntax.specs.declared.records.Refusal as refusals
use Rattle.pgo_syntax.specs.declared.records.Refusal.TheVariants as refusal
use Rattle.pgo_syntax.specs.declared.records.AttemptResult as results
use Rattle.pgo_syntax.specs.declared.records.AttemptResult.TheVariants as result
use Rattle.pgo_syntax.specs.declared.records.Record as records
use Rattle.pgo_syntax.specs.declared.records.End.{End}
use Rattle.pgo_syntax.specs.declared.records.End.TheVariants as ends
use Rattle.pgo_syntax.specs.declared.records.Settings as settings
use Rattle.pgo_model.specs.Outcome.{Kind, Blocked, NoValue, AssertFails, Many}
use Rattle.pgo_model.specs.Machine.{Note, Record, Step, Noted, Held, Down, Full}
use Rattle.pgo_model.specs.Core as core
use Rattle.pgo_model.specs.Core.{Settings}

abbrev pub kind_view : kinds.NoteKind → Kind
kind_view kind.Blocked = Blocked
kind_view kind.NoValue = NoValue
kind_view kind.AssertFails = AssertFails
kind_view kind.Many = Many

abbrev pub note_view : notes.Note → Note
note_view n = record { instance = n.instance; attempt = n.attempt; kind = kind_view n.kind; position = n.position }

abbrev pub refusal_view : refusals.Refusal → Record
refusal_view (refusal.Held r h) = Held r h
refusal_view (refusal.Down r o) = Down r o
refusal_view (refusal.Full n) = Full n
refusal_view (refusal.Many leaves n) = Noted Many n

abbrev pub result_view : results.AttemptResult → Record
result_view (result.Step n) = Step n
result_view (result.Noted k n) = Noted (kind_view k) n
result_view (result.Refused r) = refusal_view r

-- the number of an attempt, and what became of it
abbrev pub record_view : records.Record → ℕ × Record
record_view r = (r.attempt, result_view r.result)

-- whether blocked instances wait is no part of the machine
abbrev pub settings_view : settings.Settings → Settings
settings_view s = record { seed = s.seed; attempts = s.attempts; steps = s.steps; down = s.down }

-- how an instance ended, as it lies in memory
abbrev pub ended : core.End → End
ended core.Done = ends.Done
ended core.Stopped = ends.Stopped
ended core.JournalFull = ends.Full
ended core.Spent = ends.Spent
