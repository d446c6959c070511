-- What the words ask for, command by command.
use Rattle.std.specs.Prelude.{◌≡◌, ℕ, List, []}
use Rattle.pgo_base.specs.Data.{Data}
use Rattle.pgo_base.specs.Lookup.{Name}
use Rattle.pgo_model.specs.Core.{Settings}
use Rattle.pgo_execute.specs.Schedules.{Schedule, Turns, Rounds, Threads}
use Rattle.pgo_words.specs.Asks.{Command, Compile, Expand, Step, Run, Check, Migrate, Load, AsksBy}
use Rattle.pgo_words.specs.Settings.{default_settings}
use Rattle.pgo_front.specs.declared.target.Target.{Target}
use Rattle.pgo_front.specs.declared.target.Target.TheVariants as targets

-- the words ask for a run under this schedule, with these settings and values of constants: `step` asks for one under a list of turns,
-- `run` for one on threads, and no words for rounds
abbrev pub AsksExecution : List (List ℕ) → Schedule → Settings → List (Name × Data) → Type 0
AsksExecution words (Turns turns) settings consts = AsksBy (Step turns) words consts settings
AsksExecution words Rounds settings consts = ⊥
AsksExecution words Threads settings consts = AsksBy Run words consts settings

-- the words ask for the check of a bundle
abbrev pub AsksCheck : List (List ℕ) → Type 0
AsksCheck words = AsksBy Check words [] default_settings

-- the words ask that a bundle be brought over
abbrev pub AsksMigration : List (List ℕ) → Type 0
AsksMigration words = AsksBy Migrate words [] default_settings

-- the command that translates
abbrev pub command_to : Target → Command
command_to targets.Expansion = Expand
command_to targets.Module = Compile

-- the words ask for this translation of a specification, with these values of constants
abbrev pub AsksTranslation : Target → List (List ℕ) → List (Name × Data) → Type 0
AsksTranslation target words consts = AsksBy (command_to target) words consts default_settings

-- the words ask for the load of this size
abbrev pub AsksLoad : (size : ℕ) → List (List ℕ) → Type 0
AsksLoad size words = AsksBy (Load size) words [] default_settings

-- ---- and for nothing else

abbrev pub ExecutesOnly : List (List ℕ) → Schedule → Settings → List (Name × Data) → Type 0
ExecutesOnly words schedule settings consts =
    AsksExecution words schedule settings consts
    × ((other : Schedule) (set : Settings) (others : List (Name × Data)) → AsksExecution words other set others → (other ≡ schedule) × (set ≡ settings) × (others ≡ consts))

abbrev pub TranslatesOnly : List (List ℕ) → Target → List (Name × Data) → Type 0
TranslatesOnly words target consts =
    AsksTranslation target words consts
    × ((other : Target) (others : List (Name × Data)) → AsksTranslation other words others → (other ≡ target) × (others ≡ consts))

abbrev pub LoadsOnly : List (List ℕ) → (size : ℕ) → Type 0
LoadsOnly words size = AsksLoad size words × ((other : ℕ) → AsksLoad other words → other ≡ size)
