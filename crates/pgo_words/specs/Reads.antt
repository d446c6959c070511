-- That what is read is the one thing that the words ask for.
use Rattle.std.specs.Prelude.{◌≡◌, ◌≤◌, ◌^◌, ℕ, Bool, false, List, ◌∷◌, Option, Some, None, codes, decimal}
use Rattle.pgo_base.specs.Data.{Data}
use Rattle.pgo_base.specs.Lookup.{Name}
use Rattle.pgo_model.specs.Core.{Settings}
use Rattle.pgo_syntax.specs.RecordView.{settings_view}
use Rattle.pgo_syntax.specs.declared.records.Settings as settings
use Rattle.pgo_model.specs.ValueText.{is_one_of}
use Rattle.pgo_words.specs.Asks.{Command, Compile, Expand, Step, Run, Check, Migrate, Load, Request, HasParts, Asks, AsksOnly}
use Rattle.pgo_words.specs.Constants.{Constants}
use Rattle.pgo_words.specs.Failures.{FailuresOr}
use Rattle.pgo_words.specs.Parts.{Pairs, now_of, texts}
use Rattle.pgo_words.specs.Settings.{NumberOr, SettingsOf, run_options}
use Rattle.pgo_words.specs.declared.commands.CommandName.{CommandName}
use Rattle.pgo_words.specs.declared.commands.CommandName.TheVariants as names
use Rattle.pgo_words.specs.declared.options.Options.{Options}

-- the value, or the default, is this number and no other
abbrev pub NumberOnly : (default limit : ℕ) → Option (List ℕ) → Option ℕ → Type 0
NumberOnly default limit value None = (n : ℕ) → NumberOr default limit value n → ⊥
NumberOnly default limit value (Some m) = NumberOr default limit value m × ((n : ℕ) → NumberOr default limit value n → n ≡ m)

-- the text is this size and no other
abbrev pub SizeOnly : List ℕ → Option ℕ → Type 0
SizeOnly text None = (n : ℕ) → 1 ≤ n → n ≤ 32 → text ≡ decimal n → ⊥
SizeOnly text (Some m) = (text ≡ decimal m) × (1 ≤ m) × (m ≤ 32) × ((n : ℕ) → n ≤ 32 → text ≡ decimal n → n ≡ m)

-- the options' values give these settings
pub record ValuesGive (o : Options) (s : Settings) : Type 0 where
  pub seed : NumberOr 0 (2 ^ 64) (now_of o.seed) s.seed
  pub attempts : NumberOr 10000 100001 (now_of o.attempts) s.attempts
  pub steps : NumberOr 10000 100001 (now_of o.steps) s.steps
  pub down : FailuresOr (now_of o.fail) s.down

-- these settings and no others
abbrev pub SettingsOnly : Options → Option Settings → Type 0
SettingsOnly o None = (s : Settings) → ValuesGive o s → ⊥
SettingsOnly o (Some t) = ValuesGive o t × ((s : Settings) → ValuesGive o s → s ≡ t)

-- the options and the words behind them give these settings and constants
pub record GivesBoth (o : Options) (s : Settings) (consts : List (Name × Data)) : Type 0 where
  pub settings_are : ValuesGive o s
  pub consts_are : Constants (texts o.rest.now) consts

-- settings as they lie in memory, and constants
abbrev pub both_view : settings.Settings × List (Name × Data) → Settings × List (Name × Data)
both_view p = (settings_view p.0, p.1)

-- these, and no others
abbrev pub BothOnly : Options → Option (Settings × List (Name × Data)) → Type 0
BothOnly o None = (s : Settings) (cs : List (Name × Data)) → GivesBoth o s cs → ⊥
BothOnly o (Some p) =
    GivesBoth o p.0 p.1 × ((s : Settings) (cs : List (Name × Data)) → GivesBoth o s cs → (s ≡ p.0) × (cs ≡ p.1))

-- options of `run` that have values, and constants, give these settings and constants
pub record GivesRun (words : List (List ℕ)) (options : Pairs) (s : Settings) (consts : List (Name × Data)) : Type 0 where
  pub parts : HasParts run_options words options consts
  pub settings_are : SettingsOf options s

abbrev pub GivesSomeRun : List (List ℕ) → Settings → List (Name × Data) → Type 0
GivesSomeRun words s consts = (options : Pairs) × GivesRun words options s consts

-- these, and no others
abbrev pub RunOnly : List (List ℕ) → Option Request → Type 0
RunOnly words None = (options : Pairs) (s : Settings) (cs : List (Name × Data)) → GivesRun words options s cs → ⊥
RunOnly words (Some q) =
    (q.command ≡ Run) × GivesSomeRun words q.settings q.consts
    × ((options : Pairs) (s : Settings) (cs : List (Name × Data)) → GivesRun words options s cs → (s ≡ q.settings) × (cs ≡ q.consts))

-- the word of each command
abbrev pub word_of : CommandName → List ℕ
word_of names.Compile = codes "compile"
word_of names.Expand = codes "expand"
word_of names.Step = codes "step"
word_of names.Run = codes "run"
word_of names.Check = codes "check"
word_of names.Migrate = codes "migrate"
word_of names.Load = codes "load"

-- the word is that of this command, or of none
abbrev pub IsWordOf : List ℕ → Option CommandName → Type 0
IsWordOf word None = (k : CommandName) → word ≡ word_of k → ⊥
IsWordOf word (Some k) = word ≡ word_of k

-- whether `--park` stands behind the command; `run` alone has it
abbrev pub parks_at : CommandName → List (List ℕ) → Bool
parks_at names.Compile behind = false
parks_at names.Expand behind = false
parks_at names.Step behind = false
parks_at names.Run behind = is_one_of (codes "--park") behind
parks_at names.Check behind = false
parks_at names.Migrate behind = false
parks_at names.Load behind = false

abbrev pub name_of : Command → CommandName
name_of Compile = names.Compile
name_of Expand = names.Expand
name_of (Step turns) = names.Step
name_of Run = names.Run
name_of Check = names.Check
name_of Migrate = names.Migrate
name_of (Load size) = names.Load

-- behind the word of the command the words ask for this and for nothing else
abbrev pub BehindOnly : CommandName → List (List ℕ) → Option Request → Type 0
BehindOnly name behind None = (r : Request) → name_of r.command ≡ name → Asks (word_of name ∷ behind) r → ⊥
BehindOnly name behind (Some q) = Asks (word_of name ∷ behind) q × ((r : Request) → name_of r.command ≡ name → Asks (word_of name ∷ behind) r → r ≡ q)

-- the words ask for this and for nothing else
abbrev pub RequestOnly : List (List ℕ) → Option Request → Type 0
RequestOnly words None = (r : Request) → Asks words r → ⊥
RequestOnly words (Some q) = AsksOnly words q
