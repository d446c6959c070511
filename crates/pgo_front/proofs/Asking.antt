-- What a request says of each command, and that words ask for one command alone.
use Rattle.std.proofs.Common.{◌≡◌, inl, inr, ℕ, List, [], refl, ap, sym, ◌∙◌, subst}
use Rattle.pgo_base.specs.Data.{Data}
use Rattle.pgo_base.specs.Lookup.{Name}
use Rattle.pgo_model.specs.Core.{Settings}
use Rattle.pgo_execute.specs.Schedules.{Schedule, Turns, Rounds, Threads}
use Rattle.pgo_words.specs.Asks.{Command, Compile, Expand, Step, Run, Check, Migrate, Load, Request, AsksBy, AsksOnly}
use Rattle.pgo_words.specs.Reads.{name_of}
use Rattle.pgo_words.specs.Settings.{default_settings}
use Rattle.pgo_words.specs.declared.commands.CommandName.{CommandName}
use Rattle.pgo_words.specs.declared.commands.CommandName.TheVariants as names
use Rattle.pgo_words.proofs.ReadLaws.{one_command}
use Rattle.pgo_front.specs.declared.target.Target.{Target}
use Rattle.pgo_front.specs.declared.target.Target.TheVariants as targets
use Rattle.pgo_front.specs.Asked.{AsksCheck, AsksExecution, AsksMigration, ExecutesOnly, LoadsOnly, TranslatesOnly, command_to}
use Rattle.pgo_front.specs.Answers.{AsksNothing, AsksOfInput, AsksSomeExecution, AsksSomeLoad, AsksSomeTranslation, ReadsNothing}

-- ---- the command of a run

-- that asks for a schedule; no words ask for rounds
abbrev pub command_under : Schedule → Command
command_under (Turns ts) = Step ts
command_under Rounds = Run
command_under Threads = Run

asked_by : (words : List (List ℕ)) (schedule : Schedule) (settings : Settings) (consts : List (Name × Data)) → AsksExecution words schedule settings consts
    → AsksBy (command_under schedule) words consts settings
asked_by words (Turns ts) settings consts a = a
asked_by words Rounds settings consts a = absurd a
asked_by words Threads settings consts a = a

run_asked : (words : List (List ℕ)) (a : AsksSomeExecution words) → AsksBy (command_under a.0) words a.2 a.1
run_asked words a = asked_by words a.0 a.1 a.2 a.3

-- ---- one command alone

same_name : (words : List (List ℕ)) (k l : Command) (consts others : List (Name × Data)) (settings set : Settings)
    → AsksBy k words consts settings → AsksBy l words others set → name_of k ≡ name_of l
same_name words k l consts others settings set a b =
    one_command words (record { command = k; consts = consts; settings = settings }) (record { command = l; consts = others; settings = set }) a b

-- another command than those of runs, and than those of translations
no_execution : (n : CommandName) → (names.Step ≡ n → ⊥) → (names.Run ≡ n → ⊥) → (schedule : Schedule) → name_of (command_under schedule) ≡ n → ⊥
no_execution n a b (Turns ts) e = a e
no_execution n a b Rounds e = b e
no_execution n a b Threads e = b e

no_translation : (n : CommandName) → (names.Expand ≡ n → ⊥) → (names.Compile ≡ n → ⊥) → (target : Target) → name_of (command_to target) ≡ n → ⊥
no_translation n a b targets.Expansion e = a e
no_translation n a b targets.Module e = b e

pub execution_no_check : (words : List (List ℕ)) → AsksSomeExecution words → AsksCheck words → ⊥
execution_no_check words a check =
    no_execution names.Check (λ e. cc) (λ e. cc) a.0 (same_name words (command_under a.0) Check a.2 [] a.1 default_settings (run_asked words a) check)

pub execution_no_load : (words : List (List ℕ)) → AsksSomeExecution words → AsksSomeLoad words → ⊥
execution_no_load words a load =
    no_execution names.Load (λ e. cc) (λ e. cc) a.0 (same_name words (command_under a.0) (Load load.0) a.2 [] a.1 default_settings (run_asked words a) load.1)

pub translation_no_check : (words : List (List ℕ)) → AsksSomeTranslation words → AsksCheck words → ⊥
translation_no_check words a check =
    no_translation names.Check (λ e. cc) (λ e. cc) a.0 (same_name words (command_to a.0) Check a.1 [] default_settings default_settings a.2 check)

pub translation_no_load : (words : List (List ℕ)) → AsksSomeTranslation words → AsksSomeLoad words → ⊥
translation_no_load words a load =
    no_translation names.Load (λ e. cc) (λ e. cc) a.0 (same_name words (command_to a.0) (Load load.0) a.1 [] default_settings default_settings a.2 load.1)

pub translation_no_execution : (words : List (List ℕ)) → AsksSomeTranslation words → AsksSomeExecution words → ⊥
translation_no_execution words a e =
    no_execution (name_of (command_to a.0)) (λ n. no_translation names.Step (λ m. cc) (λ m. cc) a.0 (sym n))
    (λ n. no_translation names.Run (λ m. cc) (λ m. cc) a.0 (sym n)) e.0
    (same_name words (command_under e.0) (command_to a.0) e.2 a.1 e.1 default_settings (run_asked words e) a.2)

pub check_no_load : (words : List (List ℕ)) → AsksCheck words → AsksSomeLoad words → ⊥
check_no_load words check load =
    let n : names.Check ≡ names.Load = same_name words Check (Load load.0) [] [] default_settings default_settings check load.1 in cc

pub execution_no_migration : (words : List (List ℕ)) → AsksSomeExecution words → AsksMigration words → ⊥
execution_no_migration words a migration =
    no_execution names.Migrate (λ e. cc) (λ e. cc) a.0 (same_name words (command_under a.0) Migrate a.2 [] a.1 default_settings (run_asked words a) migration)

pub translation_no_migration : (words : List (List ℕ)) → AsksSomeTranslation words → AsksMigration words → ⊥
translation_no_migration words a migration =
    no_translation names.Migrate (λ e. cc) (λ e. cc) a.0 (same_name words (command_to a.0) Migrate a.1 [] default_settings default_settings a.2 migration)

pub check_no_migration : (words : List (List ℕ)) → AsksCheck words → AsksMigration words → ⊥
check_no_migration words check migration =
    let n : names.Check ≡ names.Migrate = same_name words Check Migrate [] [] default_settings default_settings check migration in cc

pub migration_no_load : (words : List (List ℕ)) → AsksMigration words → AsksSomeLoad words → ⊥
migration_no_load words migration load =
    let n : names.Migrate ≡ names.Load = same_name words Migrate (Load load.0) [] [] default_settings default_settings migration load.1 in cc

-- a command that reads the input is no load
pub input_no_load : (words : List (List ℕ)) → AsksOfInput words → AsksSomeLoad words → ⊥
input_no_load words (inl a) load = execution_no_load words a load
input_no_load words (inr (inl a)) load = check_no_load words a load
input_no_load words (inr (inr (inl a))) load = translation_no_load words a load
input_no_load words (inr (inr (inr a))) load = migration_no_load words a load

-- ---- words that ask for something don't ask for nothing

pub execution_something : (words : List (List ℕ)) → AsksSomeExecution words → AsksNothing words → ⊥
execution_something words a nothing = nothing (record { command = command_under a.0; consts = a.2; settings = a.1 }) (run_asked words a)

pub check_something : (words : List (List ℕ)) → AsksCheck words → AsksNothing words → ⊥
check_something words a nothing = nothing (record { command = Check; consts = []; settings = default_settings }) a

pub translation_something : (words : List (List ℕ)) → AsksSomeTranslation words → AsksNothing words → ⊥
translation_something words a nothing = nothing (record { command = command_to a.0; consts = a.1; settings = default_settings }) a.2

pub migration_something : (words : List (List ℕ)) → AsksMigration words → AsksNothing words → ⊥
migration_something words a nothing = nothing (record { command = Migrate; consts = []; settings = default_settings }) a

pub load_something : (words : List (List ℕ)) → AsksSomeLoad words → AsksNothing words → ⊥
load_something words a nothing = nothing (record { command = Load a.0; consts = []; settings = default_settings }) a.1

pub input_something : (words : List (List ℕ)) → AsksOfInput words → AsksNothing words → ⊥
input_something words (inl a) nothing = execution_something words a nothing
input_something words (inr (inl a)) nothing = check_something words a nothing
input_something words (inr (inr (inl a))) nothing = translation_something words a nothing
input_something words (inr (inr (inr a))) nothing = migration_something words a nothing

-- nor for a load
pub input_unread : (words : List (List ℕ)) → AsksOfInput words → ReadsNothing words → ⊥
input_unread words a (inl nothing) = input_something words a nothing
input_unread words a (inr load) = input_no_load words a load

-- ---- the one request of the words, of each command

abbrev pub record_of : Command → List (Name × Data) → Settings → Request
record_of k cs s = record { command = k; consts = cs; settings = s }

abbrev schedule_of : Command → Schedule
schedule_of Compile = Threads
schedule_of Expand = Threads
schedule_of (Step ts) = Turns ts
schedule_of Run = Threads
schedule_of Check = Threads
schedule_of Migrate = Threads
schedule_of (Load n) = Threads

schedule_back : (words : List (List ℕ)) (schedule : Schedule) (settings : Settings) (consts : List (Name × Data)) → AsksExecution words schedule settings consts
    → schedule_of (command_under schedule) ≡ schedule
schedule_back words (Turns ts) settings consts a = refl
schedule_back words Rounds settings consts a = absurd a
schedule_back words Threads settings consts a = refl

abbrev target_of : Command → Target
target_of Compile = targets.Module
target_of Expand = targets.Expansion
target_of (Step ts) = targets.Module
target_of Run = targets.Module
target_of Check = targets.Module
target_of Migrate = targets.Module
target_of (Load n) = targets.Module

target_back : (target : Target) → target_of (command_to target) ≡ target
target_back targets.Expansion = refl
target_back targets.Module = refl

abbrev size_of : Command → ℕ
size_of Compile = 0
size_of Expand = 0
size_of (Step ts) = 0
size_of Run = 0
size_of Check = 0
size_of Migrate = 0
size_of (Load n) = n

default_to : (words : List (List ℕ)) (target : Target) (consts : List (Name × Data)) (settings : Settings) → AsksBy (command_to target) words consts settings → settings ≡ default_settings
default_to words targets.Expansion consts settings a = a.settings_are
default_to words targets.Module consts settings a = a.settings_are

module _ (words : List (List ℕ)) (consts : List (Name × Data)) (settings : Settings) where
  pub execution_only : (schedule : Schedule) → AsksExecution words schedule settings consts → AsksOnly words (record_of (command_under schedule) consts settings)
      → ExecutesOnly words schedule settings consts
  execution_only schedule a h = (
    a,
    λ other set others b.
        others_are other set others b (h.1 (record { command = command_under other; consts = others; settings = set }) (asked_by words other set others b)),
  )
    where
      others_are : (other : Schedule) (set : Settings) (others : List (Name × Data)) → AsksExecution words other set others
          → record_of (command_under other) others set ≡ record_of (command_under schedule) consts settings → (other ≡ schedule) × (set ≡ settings) × (others ≡ consts)
      others_are other set others b e = (
        sym (schedule_back words other set others b) ∙ ap (λ r. schedule_of r.command) e ∙ schedule_back words schedule settings consts a,
        ap (λ r. r.settings) e,
        ap (λ r. r.consts) e,
      )

  pub translation_only : (target : Target) → AsksOnly words (record_of (command_to target) consts settings) → TranslatesOnly words target consts
  translation_only target h = (
    subst (AsksBy (command_to target) words consts) (default_to words target consts settings h.0) h.0,
    λ other others a. others_are other others (h.1 (record { command = command_to other; consts = others; settings = default_settings }) a),
  )
    where
      others_are : (other : Target) (others : List (Name × Data))
          → record_of (command_to other) others default_settings ≡ record_of (command_to target) consts settings → (other ≡ target) × (others ≡ consts)
      others_are other others e = (sym (target_back other) ∙ ap (λ r. target_of r.command) e ∙ target_back target, ap (λ r. r.consts) e)

  pub load_only : (size : ℕ) → AsksOnly words (record_of (Load size) consts settings) → LoadsOnly words size
  load_only size h = (
    record { alone = record { words_are = h.0.alone.words_are; no_consts = refl; settings_are = refl }; some = h.0.some; few = h.0.few },
    λ other a. ap (λ r. size_of r.command) (h.1 (record { command = Load other; consts = []; settings = default_settings }) a),
  )
