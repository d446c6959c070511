-- What each status of `pgo` says of its words, its input and its output.
use Rattle.std.specs.Prelude.{◌≡◌, ◌≤◌, ◌<◌, ◌⊎◌, ℕ, List, [], length, Option, Some, IfSome}
use Rattle.pgo_io.specs.Faults.{Rose}
use Rattle.pgo_io.specs.Sink.{Grows, GrowsByPrefix}
use Rattle.pgo_base.specs.Data.{Data}
use Rattle.pgo_base.specs.Lookup.{Name}
use Rattle.pgo_accept.specs.Answers.{IsExpandable}
use Rattle.pgo_accept.specs.Refusals.{RefusedWith}
use Rattle.pgo_check.specs.declared.verdict.Verdict.{Verdict}
use Rattle.pgo_front.specs.declared.target.Target.{Target}
use Rattle.pgo_front.specs.declared.status.Status.{Status}
use Rattle.pgo_front.specs.declared.status.Status.TheVariants as status
use Rattle.pgo_execute.specs.Schedules.{Schedule}
use Rattle.pgo_model.specs.Core.{Settings}
use Rattle.pgo_verdicts.specs.Judged.{Judged}
use Rattle.pgo_verdicts.specs.Runs.{Runs}
use Rattle.pgo_words.specs.Asks.{Request, Asks}
use Rattle.pgo_front.specs.Asked.{AsksExecution, AsksCheck, AsksMigration, AsksTranslation, AsksLoad}
use Rattle.pgo_front.specs.Spells.{most_bytes}
use Rattle.pgo_front.specs.Statuses.{line_of}
use Rattle.pgo_log_text.specs.ReadBundle.{IsNoBundle}
use Rattle.pgo_log_text.specs.LineNumbers.{IsLineOf}
use Rattle.pgo_front.specs.Verdicts.{IsRunVerdict, verdict_line, bundle_line, most_bundle_bytes}
use Rattle.pgo_front.specs.Translations.{Translated, NotTranslated}
use Rattle.pgo_front.specs.Loads.{Loaded, NotLoaded, LoadRefusedBy}
use Rattle.pgo_front.specs.Migrations.{CannotMigrate, IsCheckLine, IsMigrationLine, Migrated}

-- ---- words

-- the words ask for a run under some schedule, with some settings and constants
abbrev pub AsksSomeExecution : List (List ℕ) → Type 0
AsksSomeExecution words = (schedule : Schedule) × (settings : Settings) × (consts : List (Name × Data)) × AsksExecution words schedule settings consts

-- the words ask for a translation, with some constants
abbrev pub AsksSomeTranslation : List (List ℕ) → Type 0
AsksSomeTranslation words = (target : Target) × (consts : List (Name × Data)) × AsksTranslation target words consts

-- the words ask for the load of some size
abbrev pub AsksSomeLoad : List (List ℕ) → Type 0
AsksSomeLoad words = (size : ℕ) × AsksLoad size words

-- the words ask for a command that reads the input
abbrev pub AsksOfInput : List (List ℕ) → Type 0
AsksOfInput words = AsksSomeExecution words ⊎ (AsksCheck words ⊎ (AsksSomeTranslation words ⊎ AsksMigration words))

-- the words ask for nothing that there is
abbrev pub AsksNothing : List (List ℕ) → Type 0
AsksNothing words = (r : Request) → Asks words r → ⊥

-- the words ask for nothing that there is, or for a load, which reads nothing
abbrev pub ReadsNothing : List (List ℕ) → Type 0
ReadsNothing words = AsksNothing words ⊎ AsksSomeLoad words

-- the words ask for a command on a specification, with these constants
abbrev pub AsksWith : List (List ℕ) → List (Name × Data) → Type 0
AsksWith words consts = ((schedule : Schedule) × (settings : Settings) × AsksExecution words schedule settings consts) ⊎ ((target : Target) × AsksTranslation target words consts)

-- the line that refuses the text with the constants that the words ask for
pub record RefusedBy (words : List (List ℕ)) (text line : List ℕ) : Type 0 where
  pub consts : List (Name × Data)
  pub asks : AsksWith words consts
  pub refused : RefusedWith text consts line

-- the line refuses the specification that the words ask for: the one that the input told, or that of a load
abbrev pub RefusesSpec : List (List ℕ) → (input : Option (List ℕ)) → (line : List ℕ) → Type 0
RefusesSpec words input line =
    ((AsksSomeExecution words ⊎ AsksSomeTranslation words) × IfSome input (λ text. RefusedBy words text line)) ⊎ LoadRefusedBy words line

-- ---- the commands `step` and `run`

-- the words ask for a run under some schedule with some settings and constants and for no other, the text is short enough, and
-- its run gives these bytes and this status
pub record Asked (words : List (List ℕ)) (text : List ℕ) (number : ℕ) (written : List ℕ) : Type 0 where
  pub schedule : Schedule
  pub settings : Settings
  pub consts : List (Name × Data)
  pub asks : AsksExecution words schedule settings consts
  pub no_others : (other : Schedule) (set : Settings) (others : List (Name × Data)) → AsksExecution words other set others
      → (other ≡ schedule) × (set ≡ settings) × (others ≡ consts)
  pub short : length text ≤ most_bytes
  pub runs : Runs text consts settings schedule number written

-- the same words, and the text has no run with these constants: it spells no specification, or one that is refused
pub record IsRefused (words : List (List ℕ)) (text : List ℕ) : Type 0 where
  pub schedule : Schedule
  pub settings : Settings
  pub consts : List (Name × Data)
  pub asks : AsksExecution words schedule settings consts
  pub no_others : (other : Schedule) (set : Settings) (others : List (Name × Data)) → AsksExecution words other set others
      → (other ≡ schedule) × (set ≡ settings) × (others ≡ consts)
  pub short : length text ≤ most_bytes
  pub refused : IsExpandable text consts → ⊥

-- the words ask for a run, and where the input told its text, the output has grown by the bundle of its run
abbrev pub WritesBundle : List (List ℕ) → (input : Option (List ℕ)) → ℕ → (old new : Option (List ℕ)) → Type 0
WritesBundle words input n old new = AsksSomeExecution words × IfSome input (λ text. (written : List ℕ) × Asked words text n written × Grows old new written)

-- the words ask for a run, and where the input told its text, the output has grown by a prefix of that bundle
abbrev pub WritesBundlePrefix : List (List ℕ) → (input old new : Option (List ℕ)) → Type 0
WritesBundlePrefix words input old new =
    AsksSomeExecution words × IfSome input (λ text. (n : ℕ) × (written : List ℕ) × Asked words text n written × GrowsByPrefix old new written)

-- ---- the command `check`

-- the text is short enough and a bundle, and this is the verdict on its log
abbrev pub Checked : List ℕ → Verdict → Type 0
Checked text v = (length text ≤ most_bundle_bytes) × Judged text v

-- the words ask for a check, and where the input told its text, the output has grown by the line of the verdict on it,
-- which is one of these
abbrev pub WritesVerdict : List (List ℕ) → (input : Option (List ℕ)) → (Verdict → Type 0) → (old new : Option (List ℕ)) → Type 0
WritesVerdict words input Wanted old new =
    AsksCheck words × IfSome input (λ text. (v : Verdict) × Wanted v × Checked text v × Grows old new (verdict_line v))

-- the words ask for a check, and where the input told its text, the output has grown by a prefix of that line
abbrev pub WritesVerdictPrefix : List (List ℕ) → (input old new : Option (List ℕ)) → Type 0
WritesVerdictPrefix words input old new =
    AsksCheck words × IfSome input (λ text. (v : Verdict) × Checked text v × GrowsByPrefix old new (verdict_line v))

-- ---- the commands `expand` and `compile`

-- the words ask for a translation, and where the input told its text, the output has grown by its translation
abbrev pub WritesTranslation : List (List ℕ) → (input old new : Option (List ℕ)) → Type 0
WritesTranslation words input old new =
    AsksSomeTranslation words × IfSome input (λ text. (written : List ℕ) × Translated words text written × Grows old new written)

-- the words ask for a translation, and where the input told its text, the output has grown by a prefix of its translation
abbrev pub WritesTranslationPrefix : List (List ℕ) → (input old new : Option (List ℕ)) → Type 0
WritesTranslationPrefix words input old new =
    AsksSomeTranslation words × IfSome input (λ text. (written : List ℕ) × Translated words text written × GrowsByPrefix old new written)

-- ---- the command `migrate`

-- the words ask that a bundle be brought over, and where the input told its text, the output has grown by its bundle of version 2
abbrev pub WritesMigration : List (List ℕ) → (input old new : Option (List ℕ)) → Type 0
WritesMigration words input old new =
    AsksMigration words × IfSome input (λ text. (written : List ℕ) × Migrated text written × Grows old new written)

-- and where the input told its text, the output has grown by a prefix of its bundle of version 2
abbrev pub WritesMigrationPrefix : List (List ℕ) → (input old new : Option (List ℕ)) → Type 0
WritesMigrationPrefix words input old new =
    AsksMigration words × IfSome input (λ text. (written : List ℕ) × Migrated text written × GrowsByPrefix old new written)

-- ---- the command `load`

-- the words ask for a load, and the output has grown by its line
abbrev pub WritesLoad : List (List ℕ) → (old new : Option (List ℕ)) → Type 0
WritesLoad words old new = (written : List ℕ) × Loaded words written × Grows old new written

-- the words ask for a load, and the output has grown by a prefix of its line
abbrev pub WritesLoadPrefix : List (List ℕ) → (old new : Option (List ℕ)) → Type 0
WritesLoadPrefix words old new = (written : List ℕ) × Loaded words written × GrowsByPrefix old new written

-- ---- statuses

-- the run ended with every instance at Done, or the log is a run, or the specification is translated, or the load is judged, or the bundle is
-- brought over
abbrev pub EndsWell : List (List ℕ) → (input old new : Option (List ℕ)) → Type 0
EndsWell words input old new =
    WritesBundle words input 0 old new
    ⊎ (WritesVerdict words input IsRunVerdict old new
    ⊎ (WritesTranslation words input old new
    ⊎ (WritesLoad words old new ⊎ WritesMigration words input old new)))

-- a prefix of the bundle of a run, of the line of a verdict, of a translation, of the line of a load, or of a bundle that is brought over, came to
-- the output
abbrev pub WritesPrefix : List (List ℕ) → (input old new : Option (List ℕ)) → Type 0
WritesPrefix words input old new =
    WritesBundlePrefix words input old new
    ⊎ (WritesVerdictPrefix words input old new
    ⊎ (WritesTranslationPrefix words input old new
    ⊎ (WritesLoadPrefix words old new ⊎ WritesMigrationPrefix words input old new)))

-- why a command that wrote nothing stopped
abbrev pub Stops : List (List ℕ) → (input : Option (List ℕ)) → (faults_before faults_now : ℕ) → Status → Type 0
Stops words input before now status.Usage = AsksNothing words
Stops words input before now status.SpecRefused =
    (AsksSomeExecution words × IfSome input (IsRefused words))
    ⊎ ((AsksSomeTranslation words × IfSome input (NotTranslated words)) ⊎ NotLoaded words)
Stops words input before now status.BadBundle =
    (AsksCheck words × IfSome input (λ text. (length text ≤ most_bundle_bytes) × IsNoBundle text))
    ⊎ (AsksMigration words × IfSome input (λ text. (length text ≤ most_bundle_bytes) × CannotMigrate text))
Stops words input before now status.ReadFault = AsksOfInput words × Rose before now
Stops words input before now status.TooLong =
    (AsksSomeExecution words × IfSome input (λ text. most_bytes < length text))
    ⊎ ((AsksCheck words × IfSome input (λ text. most_bundle_bytes < length text))
    ⊎ ((AsksSomeTranslation words × IfSome input (λ text. most_bytes < length text))
    ⊎ (AsksMigration words × IfSome input (λ text. most_bundle_bytes < length text))))
Stops words input before now status.NoMemory = Unit {0}
Stops words input before now status.Fine = ⊥
Stops words input before now status.WriteFault = ⊥
Stops words input before now status.Stopped = ⊥
Stops words input before now status.Spent = ⊥
Stops words input before now status.Quiet = ⊥
Stops words input before now status.Full = ⊥
Stops words input before now status.NotARun = ⊥

-- a status that leaves the output as it was
abbrev pub IsRefusal : Status → Type 0
IsRefusal status.Fine = ⊥
IsRefusal status.Stopped = ⊥
IsRefusal status.Spent = ⊥
IsRefusal status.Quiet = ⊥
IsRefusal status.Full = ⊥
IsRefusal status.NotARun = ⊥
IsRefusal status.WriteFault = ⊥
IsRefusal status.Usage = Unit {0}
IsRefusal status.SpecRefused = Unit {0}
IsRefusal status.BadBundle = Unit {0}
IsRefusal status.ReadFault = Unit {0}
IsRefusal status.TooLong = Unit {0}
IsRefusal status.NoMemory = Unit {0}

-- a status that comes after the input was read to its end, of a command that reads it
abbrev pub ReadsAll : Status → Type 0
ReadsAll status.Fine = Unit {0}
ReadsAll status.Stopped = Unit {0}
ReadsAll status.Spent = Unit {0}
ReadsAll status.Quiet = Unit {0}
ReadsAll status.Full = Unit {0}
ReadsAll status.NotARun = Unit {0}
ReadsAll status.WriteFault = Unit {0}
ReadsAll status.SpecRefused = Unit {0}
ReadsAll status.BadBundle = Unit {0}
ReadsAll status.Usage = ⊥
ReadsAll status.ReadFault = ⊥
ReadsAll status.TooLong = ⊥
ReadsAll status.NoMemory = ⊥

-- where the input told its text, nothing of it is left
abbrev pub IsAtEnd : (old new : Option (List ℕ)) → Type 0
IsAtEnd old new = IfSome old (λ _. new ≡ Some [])

-- the status, or want of memory, which is free
abbrev pub OrNoMemory : Status → Status → Type 0
OrNoMemory s expected = (s ≡ expected) ⊎ (s ≡ status.NoMemory)

-- the status of a run, or want of memory, which is free
abbrev pub IsRunOrNoMemory : Status → Type 0
IsRunOrNoMemory s = (s ≡ status.Fine) ⊎ ((s ≡ status.Stopped) ⊎ ((s ≡ status.Spent) ⊎ ((s ≡ status.Quiet) ⊎ OrNoMemory s status.Full)))

-- the error output has grown by the line of the status, where it has one
abbrev pub SaysLine : Status → (old new : Option (List ℕ)) → Type 0
SaysLine s old new = IfSome (line_of s) (λ l. Grows old new l)

-- the error output has grown by a line that refuses the specification
abbrev pub SaysRefusal : List (List ℕ) → (input old new : Option (List ℕ)) → Type 0
SaysRefusal words input old new = (line : List ℕ) × Grows old new line × RefusesSpec words input line

-- the error output has grown by a line that names this line of the input
abbrev pub SaysLineOf : (Line : List ℕ → ℕ → Type 0) → (input old new : Option (List ℕ)) → Type 0
SaysLineOf Line input old new = (n : ℕ) × Grows old new (bundle_line n) × IfSome input (λ text. Line text n)

-- the error output has grown by a line that names a line of the input, which is no bundle, or isn't brought over
abbrev pub SaysBundleLine : (input old new : Option (List ℕ)) → Type 0
SaysBundleLine = SaysLineOf IsLineOf

-- which line that is where a bundle is checked
abbrev pub SaysCheckLine : (input old new : Option (List ℕ)) → Type 0
SaysCheckLine = SaysLineOf IsCheckLine

-- which line that is where a bundle is to be brought over
abbrev pub SaysMigrationLine : (input old new : Option (List ℕ)) → Type 0
SaysMigrationLine = SaysLineOf IsMigrationLine

-- the words ask for a run under this schedule with these settings and constants, and the input tells this text
pub record IsToldToExecute (schedule : Schedule) (settings : Settings) (words : List (List ℕ)) (input : Option (List ℕ)) (consts : List (Name × Data)) (text : List ℕ) : Type 0 where
  pub asks : AsksExecution words schedule settings consts
  pub told : input ≡ Some text

-- the words ask for a check, and the input tells this text
pub record IsToldToCheck (words : List (List ℕ)) (input : Option (List ℕ)) (text : List ℕ) : Type 0 where
  pub asks : AsksCheck words
  pub told : input ≡ Some text

-- the words ask that a bundle be brought over, and the input tells this text
pub record IsToldToMigrate (words : List (List ℕ)) (input : Option (List ℕ)) (text : List ℕ) : Type 0 where
  pub asks : AsksMigration words
  pub told : input ≡ Some text

-- the words ask for this translation with these constants, and the input tells this text
pub record IsToldToTranslate (target : Target) (words : List (List ℕ)) (input : Option (List ℕ)) (consts : List (Name × Data)) (text : List ℕ) : Type 0 where
  pub asks : AsksTranslation target words consts
  pub told : input ≡ Some text
