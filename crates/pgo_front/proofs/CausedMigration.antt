-- Which status each cause gives where the words ask that a bundle be brought over.
use Rattle.std.proofs.Common.{◌≤◌, ◌<◌, inl, inr, ℕ, List, length, Option, refl}
use Rattle.pgo_io.specs.Faults.{Rose}
use Rattle.pgo_migrate.specs.Migrates.{Migrates}
use Rattle.pgo_front.specs.declared.status.Status.{Status}
use Rattle.pgo_front.specs.declared.status.Status.TheVariants as status
use Rattle.pgo_front.specs.Asked.{AsksCheck}
use Rattle.pgo_front.specs.Migrations.{CannotMigrate, Migrated}
use Rattle.pgo_front.specs.Verdicts.{most_bundle_bytes}
use Rattle.pgo_front.specs.Answers.{AsksNothing, AsksSomeExecution, AsksSomeLoad, AsksSomeTranslation, EndsWell, WritesPrefix, Stops, OrNoMemory, IsToldToMigrate}
use Rattle.pgo_front.proofs.Caused.{Says, at_told, not_short_bundle}
use Rattle.pgo_front.proofs.Asking.{check_no_migration, execution_no_migration, migration_no_load, migration_something, translation_no_migration}

module _ (words : List (List ℕ)) (input : Option (List ℕ)) (before now : ℕ) (out_before out_now : ℕ) (old new : Option (List ℕ)) (text : List ℕ) (told : IsToldToMigrate words input text) (read : Rose before now → ⊥) where
  no_run : {A : Type 0} → AsksSomeExecution words → A
  no_run run = absurd (execution_no_migration words run told.asks)

  no_check : {A : Type 0} → AsksCheck words → A
  no_check check = absurd (check_no_migration words check told.asks)

  no_translation : {A : Type 0} → AsksSomeTranslation words → A
  no_translation a = absurd (translation_no_migration words a told.asks)

  no_load : {A : Type 0} → AsksSomeLoad words → A
  no_load a = absurd (migration_no_load words told.asks a)

  not_usage : {A : Type 0} → AsksNothing words → A
  not_usage nothing = absurd (migration_something words told.asks nothing)

  -- words that ask for this aren't refused for a specification
  not_refused_spec : {A : Type 0} → Stops words input before now status.SpecRefused → A
  not_refused_spec (inl h) = no_run h.0
  not_refused_spec (inr (inl h)) = no_translation h.0
  not_refused_spec (inr (inr h)) = no_load (h.size, h.asks)

  abbrev Made : Type 0
  Made = (written : List ℕ) × Migrated text written

  fine_made : EndsWell words input old new → Made
  fine_made (inl h) = no_run h.0
  fine_made (inr (inl h)) = no_check h.0
  fine_made (inr (inr (inl h))) = no_translation h.0
  fine_made (inr (inr (inr (inl h)))) = no_load (h.1.size, h.1.asks)
  fine_made (inr (inr (inr (inr h)))) = let g = at_told input text _ told.told h.1 in (g.0, g.1)

  fault_made : WritesPrefix words input old new → Made
  fault_made (inl h) = no_run h.0
  fault_made (inr (inl h)) = no_check h.0
  fault_made (inr (inr (inl h))) = no_translation h.0
  fault_made (inr (inr (inr (inl h)))) = no_load (h.1.size, h.1.asks)
  fault_made (inr (inr (inr (inr h)))) = let g = at_told input text _ told.told h.1 in (g.0, g.1)

  refused_bundle : Stops words input before now status.BadBundle → (length text ≤ most_bundle_bytes) × CannotMigrate text
  refused_bundle (inl h) = no_check h.0
  refused_bundle (inr h) = at_told input text (λ t. (length t ≤ most_bundle_bytes) × CannotMigrate t) told.told h.1

  long_bundle : Stops words input before now status.TooLong → most_bundle_bytes < length text
  long_bundle (inl h) = no_run h.0
  long_bundle (inr (inl h)) = no_check h.0
  long_bundle (inr (inr (inl h))) = no_translation h.0
  long_bundle (inr (inr (inr h))) = at_told input text (λ t. most_bundle_bytes < length t) told.told h.1

  -- a text that is too long
  pub too_long_to_migrate_comes : (s : Status) → Says words input before now out_before out_now old new s → most_bundle_bytes < length text → OrNoMemory s status.TooLong
  too_long_to_migrate_comes status.Fine h long = absurd (not_short_bundle long (fine_made (h.fine refl)).1.0)
  too_long_to_migrate_comes status.Usage h long = not_usage (h.stopped tt)
  too_long_to_migrate_comes status.SpecRefused h long = not_refused_spec (h.stopped tt)
  too_long_to_migrate_comes status.ReadFault h long = absurd (read (h.stopped tt).1)
  too_long_to_migrate_comes status.WriteFault h long = absurd (not_short_bundle long (fault_made (h.prefix refl)).1.0)
  too_long_to_migrate_comes status.TooLong h long = inl refl
  too_long_to_migrate_comes status.Stopped h long = no_run (h.halted refl).0
  too_long_to_migrate_comes status.Spent h long = no_run (h.spent refl).0
  too_long_to_migrate_comes status.Quiet h long = no_run (h.quiet refl).0
  too_long_to_migrate_comes status.Full h long = no_run (h.full refl).0
  too_long_to_migrate_comes status.NotARun h long = no_check (h.not_a_run refl).0
  too_long_to_migrate_comes status.BadBundle h long = absurd (not_short_bundle long (refused_bundle (h.stopped tt)).0)
  too_long_to_migrate_comes status.NoMemory h long = inr refl

  -- a text that isn't a bundle that is brought over
  pub not_migrated_comes : (s : Status) → Says words input before now out_before out_now old new s → length text ≤ most_bundle_bytes → CannotMigrate text → OrNoMemory s status.BadBundle
  not_migrated_comes status.Fine h short none = let m = fine_made (h.fine refl) in absurd (none m.0 m.1.1)
  not_migrated_comes status.Usage h short none = not_usage (h.stopped tt)
  not_migrated_comes status.SpecRefused h short none = not_refused_spec (h.stopped tt)
  not_migrated_comes status.ReadFault h short none = absurd (read (h.stopped tt).1)
  not_migrated_comes status.WriteFault h short none = let m = fault_made (h.prefix refl) in absurd (none m.0 m.1.1)
  not_migrated_comes status.TooLong h short none = absurd (not_short_bundle (long_bundle (h.stopped tt)) short)
  not_migrated_comes status.Stopped h short none = no_run (h.halted refl).0
  not_migrated_comes status.Spent h short none = no_run (h.spent refl).0
  not_migrated_comes status.Quiet h short none = no_run (h.quiet refl).0
  not_migrated_comes status.Full h short none = no_run (h.full refl).0
  not_migrated_comes status.NotARun h short none = no_check (h.not_a_run refl).0
  not_migrated_comes status.BadBundle h short none = inl refl
  not_migrated_comes status.NoMemory h short none = inr refl

  -- a bundle that is brought over
  pub migrates_comes : (written : List ℕ) (s : Status) → Says words input before now out_before out_now old new s → (Rose out_before out_now → ⊥) → length text ≤ most_bundle_bytes → Migrates text written
      → OrNoMemory s status.Fine
  migrates_comes written status.Fine h wrote short m = inl refl
  migrates_comes written status.Usage h wrote short m = not_usage (h.stopped tt)
  migrates_comes written status.SpecRefused h wrote short m = not_refused_spec (h.stopped tt)
  migrates_comes written status.ReadFault h wrote short m = absurd (read (h.stopped tt).1)
  migrates_comes written status.WriteFault h wrote short m = absurd (wrote (h.write_fault refl))
  migrates_comes written status.TooLong h wrote short m = absurd (not_short_bundle (long_bundle (h.stopped tt)) short)
  migrates_comes written status.Stopped h wrote short m = no_run (h.halted refl).0
  migrates_comes written status.Spent h wrote short m = no_run (h.spent refl).0
  migrates_comes written status.Quiet h wrote short m = no_run (h.quiet refl).0
  migrates_comes written status.Full h wrote short m = no_run (h.full refl).0
  migrates_comes written status.NotARun h wrote short m = no_check (h.not_a_run refl).0
  migrates_comes written status.BadBundle h wrote short m = absurd ((refused_bundle (h.stopped tt)).1 written m)
  migrates_comes written status.NoMemory h wrote short m = inr refl
