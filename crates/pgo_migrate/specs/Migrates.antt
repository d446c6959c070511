-- What a bundle of version 1 is brought over to, and which texts are refused.
use Rattle.std.specs.Prelude.{◌≡◌, ◌≤◌, ◌+◌, ◌-◌, ◌^◌, ℕ, min, List, ◌++◌, length, Some, None}
use Rattle.pgo_base.specs.Lookup.{Vars}
use Rattle.pgo_model.specs.Module.{Module}
use Rattle.pgo_model.specs.ModuleText.{flatten, Text}
use Rattle.pgo_bundle.specs.BundleLog.{One, Two, BundleLog, checked_log}
use Rattle.pgo_bundle.specs.Lines.{BundleText, log_lines}
use Rattle.pgo_bundle.specs.Migrated.{migrated}
use Rattle.pgo_bundle.specs.Places.{lines_before}
use Rattle.pgo_bundle.specs.Untied.{Untied, untied_at}
use Rattle.pgo_log_text.specs.declared.errors.LogStop.{LogStop}
use Rattle.pgo_log_text.specs.declared.errors.LogStop.TheVariants.{BadLog, NoMemory}
use Rattle.pgo_log_text.specs.ReadBundle.{IsReadBundle, IsOnlyBundle, line_of}

-- the text is the bundle of version 1 of one module, its constants and one log; its records are tied; and this is the bundle of version
-- 2 of the same module, constants and log, with the notes that the records tell
pub record Migrates (text written : List ℕ) : Type 0 where
  pub m : Module
  pub consts : Vars
  pub log : BundleLog
  pub bundle : IsReadBundle text m consts log
  pub only : IsOnlyBundle text m consts log
  pub one : log.version ≡ One
  pub tied : untied_at (migrated log) ≡ None
  pub written_is : written ≡ BundleText m consts (migrated log)
  pub short : length (Text m) ≤ 4294967295
  -- it is read back, and checked as the first was
  pub reads : IsReadBundle written m consts (migrated log)
  pub checked : checked_log (migrated log) ≡ checked_log log

-- the text isn't a bundle of version 1 whose records are tied
abbrev pub IsNotMigrated : List ℕ → LogStop → Type 0
IsNotMigrated text (BadLog n) = (written : List ℕ) → Migrates text written → ⊥
IsNotMigrated text NoMemory = Unit {0}

-- of a bundle of version 2 the line is 1
abbrev pub IsOfTwo : List ℕ → LogStop → Type 0
IsOfTwo text (BadLog n) = (m : Module) (consts : Vars) (l : BundleLog) → IsReadBundle text m consts l → l.version ≡ Two → n ≡ 1
IsOfTwo text NoMemory = Unit {0}

-- of one of version 1 whose records aren't tied it is that of the first record that isn't, else of the first entry without one
abbrev pub IsUntiedLine : List ℕ → LogStop → Type 0
IsUntiedLine text (BadLog n) =
    (m : Module) (consts : Vars) (l : BundleLog) (u : Untied) (before : List ℕ) → IsReadBundle text m consts l → l.version ≡ One → untied_at (migrated l) ≡ Some u
    → text ≡ before ++ flatten (log_lines l) → n ≡ line_of before l u
IsUntiedLine text NoMemory = Unit {0}

-- ---- of a log that was read

-- the text of the bundle of version 2 of a log whose records are tied; that of its module has fewer than 2^32 bytes
abbrev pub IsWritten : Module → Vars → BundleLog → List ℕ → Type 0
IsWritten m consts l written = (untied_at (migrated l) ≡ None) × (written ≡ BundleText m consts (migrated l)) × (length (Text m) ≤ 4294967295)

-- the line of the place where it isn't tied, where that of its first line is this one
abbrev pub IsUntiedFrom : BundleLog → (first : ℕ) → LogStop → Type 0
IsUntiedFrom l first (BadLog n) = (u : Untied) × (untied_at (migrated l) ≡ Some u) × (n ≡ min (first + lines_before l u) (2 ^ 64 - 1))
IsUntiedFrom l first NoMemory = Unit {0}
