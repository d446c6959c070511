-- The promise: what a command does with its words, its input and its outputs, and with which status it ends.
use Rattle.std.specs.Prelude.{◌≡◌, ◌≤◌, ◌<◌, ◌⊎◌, ℕ, List, length}
use Rattle.pgo_base.specs.Data.{Data}
use Rattle.pgo_base.specs.Lookup.{Name}
use Rattle.pgo_model.specs.Core.{Settings}
use Rattle.pgo_model.specs.Module.{Module}
use Rattle.pgo_bundle.specs.BundleLog.{BundleLog, checked_log}
use Rattle.pgo_migrate.specs.Migrates.{Migrates}
use Rattle.pgo_model.specs.IsRun.{IsRun}
use Rattle.pgo_accept.specs.Answers.{IsExpandable}
use Rattle.pgo_log_text.specs.ReadBundle.{IsReadBundle, IsNoBundle}
use Rattle.pgo_execute.specs.Schedules.{Schedule}
use Rattle.pgo_load.specs.Load.{load_consts, load_text}
use Rattle.pgo_front.specs.declared.target.Target.{Target}
use Rattle.pgo_front.specs.declared.status.Status.{Status}
use Rattle.pgo_front.specs.declared.status.Status.TheVariants as status
use Rattle.pgo_front.specs.Spells.{most_bytes}
use Rattle.pgo_front.specs.Statuses.{IsSilent}
use Rattle.pgo_front.specs.Verdicts.{most_bundle_bytes, IsBadVerdict}
use Rattle.pgo_front.specs.Asked.{AsksCheck, AsksLoad, AsksMigration}
use Rattle.pgo_front.specs.Migrations.{CannotMigrate}
use Rattle.pgo_front.specs.Answers.{AsksNothing, AsksSomeLoad, ReadsNothing, EndsWell, WritesBundle, WritesVerdict, WritesPrefix, Stops, IsRefusal, ReadsAll, IsAtEnd, OrNoMemory, IsRunOrNoMemory, SaysLine, SaysRefusal, SaysBundleLine, SaysCheckLine, SaysMigrationLine, IsToldToExecute, IsToldToCheck, IsToldToMigrate, IsToldToTranslate}
use Rattle.pgo_front.specs.Streams.{Stream, before, after, Failed}

-- A call with these words, on this input, this output and this error output, ends with this status. Each status has its cause, and each
-- cause its status, or there is no memory.
pub record Headline {S O E : Type 0} (words : List (List ℕ)) (input : Stream S) (out : Stream O) (err : Stream E) (s : Status) : Type 0 where
  -- A run that is done, a translation, a log that is a run, a load, or a bundle that is brought over.
  pub fine : s ≡ status.Fine → EndsWell words (before input) (before out) (after out)
  -- Runs.
  pub halted : s ≡ status.Stopped → WritesBundle words (before input) 20 (before out) (after out)
  pub spent : s ≡ status.Spent → WritesBundle words (before input) 21 (before out) (after out)
  pub quiet : s ≡ status.Quiet → WritesBundle words (before input) 22 (before out) (after out)
  pub full : s ≡ status.Full → WritesBundle words (before input) 23 (before out) (after out)
  pub runs : (schedule : Schedule) (settings : Settings) (text : List ℕ) (consts : List (Name × Data))
      → IsToldToExecute schedule settings words (before input) consts text → ¬ Failed input → ¬ Failed out
      → length text ≤ most_bytes → IsExpandable text consts → IsRunOrNoMemory s
  -- Modules and expansions.
  pub translates : (target : Target) (text : List ℕ) (consts : List (Name × Data))
      → IsToldToTranslate target words (before input) consts text → ¬ Failed input → ¬ Failed out
      → length text ≤ most_bytes → IsExpandable text consts → OrNoMemory s status.Fine
  -- Checks.
  pub not_a_run : s ≡ status.NotARun → WritesVerdict words (before input) IsBadVerdict (before out) (after out)
  pub is_run : (text : List ℕ) (m : Module) (consts : List (Name × Data)) (l : BundleLog)
      → IsToldToCheck words (before input) text → ¬ Failed input → ¬ Failed out
      → length text ≤ most_bundle_bytes → IsReadBundle text m consts l
      → IsRun m consts (checked_log l).ids (checked_log l).start (checked_log l).entries → OrNoMemory s status.Fine
  pub is_no_run : (text : List ℕ) (m : Module) (consts : List (Name × Data)) (l : BundleLog)
      → IsToldToCheck words (before input) text → ¬ Failed input → ¬ Failed out
      → length text ≤ most_bundle_bytes → IsReadBundle text m consts l
      → ¬ IsRun m consts (checked_log l).ids (checked_log l).start (checked_log l).entries
      → OrNoMemory s status.NotARun
  -- Bundles that are brought over.
  pub migrates : (text written : List ℕ)
      → IsToldToMigrate words (before input) text → ¬ Failed input → ¬ Failed out
      → length text ≤ most_bundle_bytes → Migrates text written → OrNoMemory s status.Fine
  -- The load.
  pub loads : (size : ℕ) → AsksLoad size words → ¬ Failed out → IsExpandable (load_text size) (load_consts size) → OrNoMemory s status.Fine
  -- What refuses: the words; of a run, of a translation, of a check and of a migration the text; and the specification of a load.
  pub stopped : IsRefusal s → Stops words (before input) (input.faults input.old) (input.faults input.new) s
  pub usage : AsksNothing words → OrNoMemory s status.Usage
  pub too_long : (schedule : Schedule) (settings : Settings) (text : List ℕ) (consts : List (Name × Data))
      → IsToldToExecute schedule settings words (before input) consts text → ¬ Failed input
      → most_bytes < length text → OrNoMemory s status.TooLong
  pub refused : (schedule : Schedule) (settings : Settings) (text : List ℕ) (consts : List (Name × Data))
      → IsToldToExecute schedule settings words (before input) consts text → ¬ Failed input
      → length text ≤ most_bytes → ¬ IsExpandable text consts → OrNoMemory s status.SpecRefused
  pub too_long_to_translate : (target : Target) (text : List ℕ) (consts : List (Name × Data))
      → IsToldToTranslate target words (before input) consts text → ¬ Failed input
      → most_bytes < length text → OrNoMemory s status.TooLong
  pub not_translated : (target : Target) (text : List ℕ) (consts : List (Name × Data))
      → IsToldToTranslate target words (before input) consts text → ¬ Failed input
      → length text ≤ most_bytes → ¬ IsExpandable text consts → OrNoMemory s status.SpecRefused
  pub too_long_bundle : (text : List ℕ) → IsToldToCheck words (before input) text → ¬ Failed input
      → most_bundle_bytes < length text → OrNoMemory s status.TooLong
  pub no_bundle : (text : List ℕ) → IsToldToCheck words (before input) text → ¬ Failed input
      → length text ≤ most_bundle_bytes → IsNoBundle text → OrNoMemory s status.BadBundle
  pub too_long_to_migrate : (text : List ℕ) → IsToldToMigrate words (before input) text → ¬ Failed input
      → most_bundle_bytes < length text → OrNoMemory s status.TooLong
  pub not_migrated : (text : List ℕ) → IsToldToMigrate words (before input) text → ¬ Failed input
      → length text ≤ most_bundle_bytes → CannotMigrate text → OrNoMemory s status.BadBundle
  pub load_refused : (size : ℕ) → AsksLoad size words → ¬ IsExpandable (load_text size) (load_consts size) → OrNoMemory s status.SpecRefused
  -- A refusal writes nothing but its line.
  pub kept : IsRefusal s → out.new ≡ out.old
  pub says : ¬ Failed err → SaysLine s (before err) (after err)
  pub says_refusal : s ≡ status.SpecRefused → ¬ Failed err → SaysRefusal words (before input) (before err) (after err)
  pub says_bundle : s ≡ status.BadBundle → ¬ Failed err → SaysBundleLine (before input) (before err) (after err)
  pub says_untied : s ≡ status.BadBundle → AsksCheck words → ¬ Failed err → SaysCheckLine (before input) (before err) (after err)
  pub says_migration : s ≡ status.BadBundle → AsksMigration words → ¬ Failed err → SaysMigrationLine (before input) (before err) (after err)
  -- A failure of the input or the output is never passed over.
  pub read_failed : (s ≡ status.ReadFault) ⊎ (input.faults input.new ≡ input.faults input.old)
  pub write_failed : (s ≡ status.WriteFault) ⊎ (out.faults out.new ≡ out.faults out.old)
  pub write_fault : s ≡ status.WriteFault → Failed out
  pub prefix : s ≡ status.WriteFault → WritesPrefix words (before input) (before out) (after out)
  -- What is read to its end, what isn't read, and where nothing is said.
  pub ended : ¬ AsksSomeLoad words → ReadsAll s → IsAtEnd (before input) (after input)
  pub unread : ReadsNothing words → input.new ≡ input.old
  pub silent : IsSilent s → err.new ≡ err.old
