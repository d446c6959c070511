-- What `pgo migrate` writes of a bundle of version 1, and which line of a text it names, and `pgo check`.
use Rattle.std.specs.Prelude.{◌≡◌, ◌≤◌, ℕ, List, length}
use Rattle.pgo_check.specs.declared.verdict.Verdict.{Verdict}
use Rattle.pgo_log_text.specs.declared.errors.LogStop.TheVariants.{BadLog}
use Rattle.pgo_log_text.specs.ReadBundle.{NamesUntied}
use Rattle.pgo_migrate.specs.Migrates.{IsOfTwo, IsUntiedLine, Migrates}
use Rattle.pgo_verdicts.specs.Judged.{Judged}
use Rattle.pgo_front.specs.Verdicts.{most_bundle_bytes}

-- `check` says the same of both
abbrev pub HaveOneVerdict : (text written : List ℕ) → Type 0
HaveOneVerdict text written = (v w : Verdict) → Judged text v → Judged written w → v ≡ w

-- the text is short enough and a bundle of version 1 whose records are tied, and these bytes are the bundle of version 2 of the same module,
-- constants and log, which has the same verdict
abbrev pub Migrated : (text written : List ℕ) → Type 0
Migrated text written = (length text ≤ most_bundle_bytes) × Migrates text written × HaveOneVerdict text written

-- the text isn't a bundle of version 1 whose records are tied
abbrev pub CannotMigrate : List ℕ → Type 0
CannotMigrate text = (written : List ℕ) → Migrates text written → ⊥

-- The line that `check` names: of a text of the form of version 2 whose records aren't tied that of the first record that isn't, else of the
-- first entry, else of the first note, whose attempt has no record.
abbrev pub IsCheckLine : List ℕ → ℕ → Type 0
IsCheckLine text n = NamesUntied text (BadLog n)

-- The line that `migrate` names: 1 of a bundle of version 2; of one of version 1 that of the first record that isn't tied, else of the first entry
-- whose attempt has no record; and of a text of the form of version 2 whose records aren't tied the one that `check` names.
pub record IsMigrationLine (text : List ℕ) (n : ℕ) : Type 0 where
  pub of_two : IsOfTwo text (BadLog n)
  pub untied : IsUntiedLine text (BadLog n)
  pub form : IsCheckLine text n
