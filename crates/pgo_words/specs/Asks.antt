-- What the words of the command line ask for: a command, then its options, then its constants.
use Rattle.std.specs.Prelude.{◌≡◌, ◌≤◌, ℕ, List, [], ◌∷◌, ◌++◌, length, Some, codes, decimal}
use Rattle.pgo_base.specs.Data.{Data}
use Rattle.pgo_base.specs.Lookup.{Name}
use Rattle.pgo_model.specs.Core.{Settings}
use Rattle.pgo_words.specs.Constants.{Constants}
use Rattle.pgo_words.specs.Options.{option_words, find_bytes, AreOptions, MayPark}
use Rattle.pgo_words.specs.Settings.{SettingsOf, run_options, step_options, default_settings}
use Rattle.pgo_words.specs.Turns.{TurnList, most_turns}

-- write the module of a specification, or its expansion; run it under a list of turns, or on its own; decide a bundle; run the
-- load of a size
pub data Command : Type 0 where
  Compile : Command
  Expand : Command
  Step : (turns : List ℕ) → Command
  Run : Command
  Check : Command
  Migrate : Command
  Load : (size : ℕ) → Command

-- a command, the values of constants, and the settings of a run
pub record Request : Type 0 where
  pub command : Command
  pub consts : List (Name × Data)
  pub settings : Settings

-- behind the command stand these options, whose names are among these, and then these constants
pub record HasParts (names : List (List ℕ)) (behind : List (List ℕ)) (options : List (List ℕ × List ℕ)) (consts : List (Name × Data)) : Type 0 where
  pub rest : List (List ℕ)
  pub words_are : behind ≡ option_words options ++ rest
  pub options_are : AreOptions names options
  pub consts_are : Constants rest consts

-- `compile` or `expand`, and constants
pub record AsksTranslation (command : List ℕ) (words : List (List ℕ)) (consts : List (Name × Data)) (settings : Settings) : Type 0 where
  pub rest : List (List ℕ)
  pub words_are : words ≡ command ∷ rest
  pub consts_are : Constants rest consts
  pub settings_are : settings ≡ default_settings

-- `step`, its options, `--turns` with a list of turns among them, and constants
pub record AsksStep (turns : List ℕ) (words : List (List ℕ)) (consts : List (Name × Data)) (settings : Settings) : Type 0 where
  pub behind : List (List ℕ)
  pub options : List (List ℕ × List ℕ)
  pub words_are : words ≡ codes "step" ∷ behind
  pub parts : HasParts step_options behind options consts
  pub settings_are : SettingsOf options settings
  pub list : List ℕ
  pub list_is : find_bytes (codes "--turns") options ≡ Some list
  pub spells : TurnList list turns
  pub few : length turns ≤ most_turns

-- `run`, its options, `--park` among them or not, and constants
pub record AsksRun (words : List (List ℕ)) (consts : List (Name × Data)) (settings : Settings) : Type 0 where
  pub behind : List (List ℕ)
  pub others : List (List ℕ)
  pub options : List (List ℕ × List ℕ)
  pub words_are : words ≡ codes "run" ∷ behind
  pub park : MayPark options behind others
  pub parts : HasParts run_options others options consts
  pub settings_are : SettingsOf options settings

-- a command that has neither options nor constants, in these words
pub record AsksAlone (these words : List (List ℕ)) (consts : List (Name × Data)) (settings : Settings) : Type 0 where
  pub words_are : words ≡ these
  pub no_consts : consts ≡ []
  pub settings_are : settings ≡ default_settings

-- `load N` for a number from 1 to 32
pub record AsksLoad (size : ℕ) (words : List (List ℕ)) (consts : List (Name × Data)) (settings : Settings) : Type 0 where
  pub alone : AsksAlone (codes "load" ∷ (decimal size ∷ [])) words consts settings
  pub some : 1 ≤ size
  pub few : size ≤ 32

abbrev pub AsksBy : Command → List (List ℕ) → List (Name × Data) → Settings → Type 0
AsksBy Compile words consts settings = AsksTranslation (codes "compile") words consts settings
AsksBy Expand words consts settings = AsksTranslation (codes "expand") words consts settings
AsksBy (Step turns) words consts settings = AsksStep turns words consts settings
AsksBy Run words consts settings = AsksRun words consts settings
AsksBy Check words consts settings = AsksAlone (codes "check" ∷ []) words consts settings
AsksBy Migrate words consts settings = AsksAlone (codes "migrate" ∷ []) words consts settings
AsksBy (Load size) words consts settings = AsksLoad size words consts settings

-- the words ask for this
abbrev pub Asks : List (List ℕ) → Request → Type 0
Asks words r = AsksBy r.command words r.consts r.settings

-- they ask for nothing else
abbrev pub IsAll : List (List ℕ) → Request → Type 0
IsAll words r = (other : Request) → Asks words other → other ≡ r

-- the words ask for this and for nothing else
abbrev pub AsksOnly : List (List ℕ) → Request → Type 0
AsksOnly words r = Asks words r × IsAll words r
