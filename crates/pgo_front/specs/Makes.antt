-- What the parts of a command make of a text.
use Rattle.std.specs.Prelude.{◌≡◌, ◌≤◌, ◌<◌, ◌⊎◌, ℕ, List, length, Option, Some, None, IfSome, Result, Ok, Err}
use Rattle.pgo_io.specs.Faults.{Rose}
use Rattle.pgo_io.specs.Sink.{Grows, GrowsByPrefix}
use Rattle.pgo_base.specs.Data.{Data}
use Rattle.pgo_base.specs.Lookup.{Name}
use Rattle.pgo_model.specs.ModuleText.{flatten}
use Rattle.pgo_model.specs.State.{AllValues}
use Rattle.pgo_check.specs.declared.verdict.Verdict.{Verdict}
use Rattle.pgo_check.specs.declared.verdict.Verdict.TheVariants.{Run, Bad}
use Rattle.pgo_front.specs.declared.ended.Ended.{Ended}
use Rattle.pgo_front.specs.declared.output.Output.{Output}
use Rattle.pgo_front.specs.declared.output.Written.{Written}
use Rattle.pgo_front.specs.declared.output.Written.TheVariants as written
use Rattle.pgo_front.specs.declared.status.Status.{Status}
use Rattle.pgo_front.specs.declared.status.Status.TheVariants as status
use Rattle.pgo_front.specs.declared.mode.Mode.{Mode}
use Rattle.pgo_front.specs.declared.mode.Mode.TheVariants as modes
use Rattle.pgo_front.specs.declared.task.Task.{Task}
use Rattle.pgo_front.specs.declared.task.Task.TheVariants.{Execute, Check, Migrate, Translate, Load}
use Rattle.pgo_front.specs.declared.target.Target.{Target}
use Rattle.pgo_execute.specs.Schedules.{Schedule, Threads, schedule_view}
use Rattle.pgo_load.specs.Load.{Loads}
use Rattle.pgo_model.specs.Core.{Settings}
use Rattle.pgo_syntax.specs.RecordView.{settings_view}
use Rattle.pgo_verdicts.specs.Judged.{Judged}
use Rattle.pgo_verdicts.specs.Runs.{Runs}
use Rattle.pgo_front.specs.Asked.{AsksCheck, AsksMigration, ExecutesOnly, TranslatesOnly, LoadsOnly}
use Rattle.pgo_front.specs.Loads.{Loaded, load_line}
use Rattle.pgo_front.specs.Migrations.{CannotMigrate, IsCheckLine, IsMigrationLine, Migrated}
use Rattle.pgo_front.specs.Spells.{most_bytes}
use Rattle.pgo_front.specs.Statuses.{number_of}
use Rattle.pgo_front.specs.Streams.{Stream, before, after, Failed}
use Rattle.pgo_log_text.specs.ReadBundle.{IsNoBundle}
use Rattle.pgo_log_text.specs.LineNumbers.{IsLineOf}
use Rattle.pgo_front.specs.Verdicts.{verdict_line, bundle_line, most_bundle_bytes}
use Rattle.pgo_front.specs.Translations.{TranslatesTo, Translated}
use Rattle.pgo_accept.specs.Answers.{IsExpandable}
use Rattle.pgo_accept.specs.Refusals.{RefusedWith, rejection_line}
use Rattle.pgo_accept.specs.declared.errors.Rejection.{Rejection}
use Rattle.pgo_front.specs.Answers.{Asked, AsksSomeExecution, AsksSomeTranslation, Checked}

-- the schedule of a run
abbrev pub mode_view : Mode → Schedule
mode_view (modes.OneThread schedule) = schedule_view schedule
mode_view modes.Threads = Threads

-- the words ask for this task and for nothing else
abbrev pub AsksFor : List (List ℕ) → Task → Type 0
AsksFor words (Execute mode consts settings) = ExecutesOnly words (mode_view mode) (settings_view settings) consts
AsksFor words Check = AsksCheck words
AsksFor words Migrate = AsksMigration words
AsksFor words (Translate target consts) = TranslatesOnly words target consts
AsksFor words (Load size) = LoadsOnly words size

-- the bytes of what is written
abbrev pub bytes_of : Written → List ℕ
bytes_of (written.Lines ls) = flatten ls
bytes_of (written.Text t) = t

-- why the input was not read to its end, or was too long
abbrev pub StopsReading : (limit : ℕ) → (input : Option (List ℕ)) → (faults_before faults_now : ℕ) → Status → Type 0
StopsReading limit input before now s =
    ((s ≡ status.ReadFault) × Rose before now)
    ⊎ (((s ≡ status.TooLong) × IfSome input (λ text. limit < length text)) ⊎ (s ≡ status.NoMemory))

-- ---- the commands `step` and `run`

-- the command ran
abbrev pub IsRunEnd : Status → Type 0
IsRunEnd s = (s ≡ status.Fine) ⊎ ((s ≡ status.Stopped) ⊎ ((s ≡ status.Spent) ⊎ ((s ≡ status.Quiet) ⊎ (s ≡ status.Full))))

-- this is what the run of the text with these constants and settings under this schedule gives
abbrev pub MakesRun : Schedule → Settings → (text : List ℕ) → List (Name × Data) → Output → Type 0
MakesRun schedule settings text consts m = Runs text consts settings schedule (number_of m.status) (bytes_of m.written)

-- a text is refused for this cause, or there was no memory
abbrev pub StopsFor : Type 0 → Status → Type 0
StopsFor Cause s = ((s ≡ status.SpecRefused) × Cause) ⊎ (s ≡ status.NoMemory)

abbrev pub StopsSpec : (text : List ℕ) → List (Name × Data) → Status → Type 0
StopsSpec text consts s = StopsFor (IsExpandable text consts → ⊥) s

-- why a command on a specification stopped at this input, whose text is refused for this cause
abbrev pub StopsInput : (Cause : List ℕ → Type 0) → (input : Option (List ℕ)) → (faults_before faults_now : ℕ) → Status → Type 0
StopsInput Cause input before now s =
    ((s ≡ status.SpecRefused) × IfSome input (λ text. (length text ≤ most_bytes) × Cause text))
    ⊎ StopsReading most_bytes input before now s

-- why a command on the specification of this input, with these constants, stopped
abbrev pub StopsSpecInput : List (Name × Data) → (input : Option (List ℕ)) → (faults_before faults_now : ℕ) → Status → Type 0
StopsSpecInput consts input before now s = StopsInput (λ text. IsExpandable text consts → ⊥) input before now s

-- a line comes with a refused specification alone, and this holds of it
abbrev pub HasLine : (R : (line : List ℕ) → Type 0) → Status → Option (List ℕ) → Type 0
HasLine R s None = s ≡ status.SpecRefused → ⊥
HasLine R s (Some l) = (s ≡ status.SpecRefused) × R l

-- the line refuses the text that the input told, with these constants
abbrev pub RefusesInput : List (Name × Data) → (input : Option (List ℕ)) → (line : List ℕ) → Type 0
RefusesInput consts input l = IfSome input (λ text. RefusedWith text consts l)

-- ---- the command `check`

-- the status of a verdict
abbrev pub status_of : Verdict → Status
status_of (Run n) = status.Fine
status_of (Bad n w) = status.NotARun

abbrev pub IsVerdictStatus : Output → Type 0
IsVerdictStatus m = (m.status ≡ status.Fine) ⊎ (m.status ≡ status.NotARun)

-- the status and the line of this verdict
pub record MakesVerdict (v : Verdict) (m : Output) : Type 0 where
  pub status_is : m.status ≡ status_of v
  pub line_is : bytes_of m.written ≡ verdict_line v

-- the text is a bundle, and this is the verdict on it
abbrev pub MakesJudged : (text : List ℕ) → Output → Type 0
MakesJudged text m = (v : Verdict) × Judged text v × MakesVerdict v m

-- a bundle isn't taken for this cause, or there was no memory
abbrev pub StopsBundle : Type 0 → Status → Type 0
StopsBundle Cause s = ((s ≡ status.BadBundle) × Cause) ⊎ (s ≡ status.NoMemory)

-- why a command on a bundle stopped at this input, whose text isn't taken for this cause
abbrev pub StopsBundleInput : (Cause : List ℕ → Type 0) → (input : Option (List ℕ)) → (faults_before faults_now : ℕ) → Status → Type 0
StopsBundleInput Cause input before now s =
    ((s ≡ status.BadBundle) × IfSome input (λ text. (length text ≤ most_bundle_bytes) × Cause text))
    ⊎ StopsReading most_bundle_bytes input before now s

-- the text is no bundle that is read, or there was no memory
abbrev pub StopsJudging : (text : List ℕ) → Status → Type 0
StopsJudging text = StopsBundle (IsNoBundle text)

-- why a check of this input stopped
abbrev pub StopsCheck : (input : Option (List ℕ)) → (faults_before faults_now : ℕ) → Status → Type 0
StopsCheck = StopsBundleInput IsNoBundle

-- a line of a text that is no bundle, and which it is
abbrev pub IsLineToCheck : List ℕ → ℕ → Type 0
IsLineToCheck text n = IsLineOf text n × IsCheckLine text n

-- a line that names this line of the input
abbrev pub NamesLine : (Line : List ℕ → ℕ → Type 0) → (input line : Option (List ℕ)) → Type 0
NamesLine Line input None = ⊥
NamesLine Line input (Some l) = (n : ℕ) × (l ≡ bundle_line n) × IfSome input (λ text. Line text n)

-- such a line comes with a text that isn't taken, and no line without one
abbrev pub HasBundleLine : (Line : List ℕ → ℕ → Type 0) → (input : Option (List ℕ)) → Status → (line : Option (List ℕ)) → Type 0
HasBundleLine Line input s line = ((s ≡ status.BadBundle) × NamesLine Line input line) ⊎ ((s ≡ status.BadBundle → ⊥) × (line ≡ None))

-- the text is no bundle, and its line says so, with this number; or there was no memory
abbrev pub IsNoBundleEnd : ℕ → Status → Option (List ℕ) → Type 0
IsNoBundleEnd n s line = ((s ≡ status.BadBundle) × (line ≡ Some (bundle_line n))) ⊎ ((s ≡ status.NoMemory) × (line ≡ None))

-- ---- the command `migrate`

-- the text isn't a bundle that is brought over, or there was no memory
abbrev pub StopsMigrating : (text : List ℕ) → Status → Type 0
StopsMigrating text = StopsBundle (CannotMigrate text)

-- why the migration of this input stopped
abbrev pub StopsMigration : (input : Option (List ℕ)) → (faults_before faults_now : ℕ) → Status → Type 0
StopsMigration = StopsBundleInput CannotMigrate

-- a line of a text that isn't brought over, and which it is
abbrev pub IsLineToMigrate : List ℕ → ℕ → Type 0
IsLineToMigrate text n = IsLineOf text n × IsMigrationLine text n

-- ---- the commands `expand` and `compile`

-- this is the translation of the specification that the text spells, where the constants' values are values
abbrev pub MakesTranslation : Target → (text : List ℕ) → List (Name × Data) → Output → Type 0
MakesTranslation target text consts m = AllValues consts → TranslatesTo target text consts (bytes_of m.written)

-- the command ended with the line of this refusal, or there was no memory
abbrev pub IsRejected : Rejection → Status → Option (List ℕ) → Type 0
IsRejected e s None = s ≡ status.NoMemory
IsRejected e s (Some l) = (s ≡ status.SpecRefused) × (rejection_line e ≡ Some l)

-- ---- the command `load`

-- the load of this size has so many instances and entries, and this is its line
pub record MakesLoad (size : ℕ) (m : Output) : Type 0 where
  pub instances : ℕ
  pub steps : ℕ
  pub loads : Loads size instances steps
  pub line_is : bytes_of m.written ≡ load_line size instances steps

-- ---- all of them

-- a line of the input; and which it is where the words ask for a check, or that a bundle be brought over
abbrev pub IsNamedLine : List (List ℕ) → List ℕ → ℕ → Type 0
IsNamedLine words text n = IsLineOf text n × (AsksCheck words → IsCheckLine text n) × (AsksMigration words → IsMigrationLine text n)

-- the line of the end of a command: that of a refused specification, or of a text that is no bundle, or isn't brought over; no other end has one
abbrev pub HasOwnLine : (words : List (List ℕ)) (input : Option (List ℕ)) (R : (line : List ℕ) → Type 0) → Status → Option (List ℕ) → Type 0
HasOwnLine words input R s line = (HasLine R s line × (s ≡ status.BadBundle → ⊥)) ⊎ ((s ≡ status.BadBundle) × NamesLine (IsNamedLine words) input line)

-- what a command made of its words and its input
abbrev pub MakesOfRun : List (List ℕ) → (input : Option (List ℕ)) → Output → Type 0
MakesOfRun words input m =
    AsksSomeExecution words × IsRunEnd m.status × IfSome input (λ text. Asked words text (number_of m.status) (bytes_of m.written))

abbrev pub MakesOfCheck : List (List ℕ) → (input : Option (List ℕ)) → Output → Type 0
MakesOfCheck words input m =
    AsksCheck words × IsVerdictStatus m × IfSome input (λ text. (v : Verdict) × Checked text v × MakesVerdict v m)

abbrev pub MakesOfTranslation : List (List ℕ) → (input : Option (List ℕ)) → Output → Type 0
MakesOfTranslation words input m =
    AsksSomeTranslation words × (m.status ≡ status.Fine) × IfSome input (λ text. Translated words text (bytes_of m.written))

abbrev pub MakesOfLoad : List (List ℕ) → Output → Type 0
MakesOfLoad words m = (m.status ≡ status.Fine) × Loaded words (bytes_of m.written)

abbrev pub MakesOfMigration : List (List ℕ) → (input : Option (List ℕ)) → Output → Type 0
MakesOfMigration words input m =
    AsksMigration words × (m.status ≡ status.Fine) × IfSome input (λ text. Migrated text (bytes_of m.written))

abbrev pub MakesAsked : List (List ℕ) → (input : Option (List ℕ)) → Output → Type 0
MakesAsked words input m =
    MakesOfRun words input m ⊎ (MakesOfCheck words input m ⊎ (MakesOfTranslation words input m ⊎ (MakesOfLoad words m ⊎ MakesOfMigration words input m)))

-- ---- the end of a command that made this, or stopped

-- all of what was made came to the output
pub record IsWritten {O : Type 0} (m : Output) (out : Stream O) (s : Status) : Type 0 where
  pub status_is : s ≡ m.status
  pub all : Grows (before out) (after out) (bytes_of m.written)
  pub steady : out.faults out.new ≡ out.faults out.old

-- the output failed, and a prefix of what was made came to it
pub record IsCutShort {O : Type 0} (m : Output) (out : Stream O) (s : Status) : Type 0 where
  pub status_is : s ≡ status.WriteFault
  pub part : GrowsByPrefix (before out) (after out) (bytes_of m.written)
  pub cause : Failed out

-- one of both, without a line; or the command ends as it stopped, and the output is as it was
abbrev pub EndsAs : {O : Type 0} → Result Output Ended → Stream O → Ended → Type 0
EndsAs (Ok m) out e = (e.line ≡ None) × (IsWritten m out e.status ⊎ IsCutShort m out e.status)
EndsAs (Err stop) out e = (e ≡ stop) × (out.new ≡ out.old)
