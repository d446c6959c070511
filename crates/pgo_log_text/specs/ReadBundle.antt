-- Which bundles are read, and which texts are refused.
use Rattle.std.specs.Prelude.{◌≡◌, ◌+◌, ◌-◌, ◌^◌, ℕ, min, List, ◌++◌, Option, Some, None}
use Rattle.pgo_base.specs.Data.{Data}
use Rattle.pgo_base.specs.Lookup.{Name, Vars}
use Rattle.pgo_model.specs.Module.{Module}
use Rattle.pgo_model.specs.ModuleText.{flatten}
use Rattle.pgo_bundle.specs.BundleLog.{Two, BundleLog}
use Rattle.pgo_bundle.specs.Lines.{log_lines}
use Rattle.pgo_bundle.specs.Places.{lines_before}
use Rattle.pgo_bundle.specs.Untied.{Untied, untied_at}
use Rattle.pgo_module_spells.specs.Spells.{SpellsModule, SpellsAlone}
use Rattle.pgo_log_text.specs.declared.errors.LineStop.{LineStop}
use Rattle.pgo_log_text.specs.declared.errors.LineStop.TheVariants as parts
use Rattle.pgo_log_text.specs.declared.errors.LogStop.{LogStop}
use Rattle.pgo_log_text.specs.declared.errors.LogStop.TheVariants.{BadLog, NoMemory}
use Rattle.pgo_log_text.specs.IsBundle.{HasForm, IsTiedAs, IsBundle}
use Rattle.pgo_log_text.specs.LineNumbers.{newlines}

-- the text is the bundle of this module, these constants and this log
abbrev pub IsReadBundle : List ℕ → Module → List (Name × Data) → BundleLog → Type 0
IsReadBundle = IsBundle

-- it is the bundle of nothing else
abbrev pub IsOnlyBundle : List ℕ → Module → List (Name × Data) → BundleLog → Type 0
IsOnlyBundle text m consts l =
    (n : Module) (cs : List (Name × Data)) (other : BundleLog) → IsReadBundle text n cs other → (n ≡ m) × (cs ≡ consts) × (other ≡ l)

-- the line of the first line of this log in the text, which counts to 2 ^ 64 - 1
abbrev pub StartsLog : List ℕ → BundleLog → ℕ → Type 0
StartsLog text l n = (before : List ℕ) → text ≡ before ++ flatten (log_lines l) → n ≡ min (1 + newlines before) (2 ^ 64 - 1)

-- the line of a place in a log whose text stands behind these bytes, which counts to 2 ^ 64 - 1
abbrev pub line_of : List ℕ → BundleLog → Untied → ℕ
line_of before l u = min (1 + newlines before + lines_before l u) (2 ^ 64 - 1)

-- the text is no bundle
abbrev pub IsNoBundle : List ℕ → Type 0
IsNoBundle text = (m : Module) (consts : List (Name × Data)) (l : BundleLog) → IsReadBundle text m consts l → ⊥

-- it is no bundle, or there is no memory
abbrev pub IsRefused : List ℕ → LogStop → Type 0
IsRefused text (BadLog l) = IsNoBundle text
IsRefused text NoMemory = Unit {0}

-- ---- its form

-- the text has the form of the bundle of nothing else
abbrev pub HasOnlyForm : List ℕ → Module → List (Name × Data) → BundleLog → Type 0
HasOnlyForm text m consts l =
    (n : Module) (cs : List (Name × Data)) (other : BundleLog) → HasForm text n cs other → (n ≡ m) × (cs ≡ consts) × (other ≡ l)

-- the text has not the form of a bundle
abbrev pub HasNoForm : List ℕ → Type 0
HasNoForm text = (m : Module) (consts : List (Name × Data)) (l : BundleLog) → HasForm text m consts l → ⊥

abbrev pub IsFormless : List ℕ → LogStop → Type 0
IsFormless text (BadLog l) = HasNoForm text
IsFormless text NoMemory = Unit {0}

-- of a text of the form of version 2 whose records aren't tied the line is that of the first record that isn't, else that of the first
-- entry, else of the first note, whose attempt has no record
abbrev pub NamesUntied : List ℕ → LogStop → Type 0
NamesUntied text (BadLog n) =
    (m : Module) (consts : Vars) (l : BundleLog) (u : Untied) (before : List ℕ) → HasForm text m consts l → l.version ≡ Two → untied_at l ≡ Some u
    → text ≡ before ++ flatten (log_lines l) → n ≡ line_of before l u
NamesUntied text NoMemory = Unit {0}

-- the same of a part's reader
abbrev pub IsStopped : List ℕ → LineStop → Type 0
IsStopped text parts.BadLine = HasNoForm text
IsStopped text parts.NoMemory = Unit {0}

-- a log of version 2 isn't tied, and this is the line of the place, where that of its first line is this one
abbrev pub IsUntiedAt : BundleLog → (first n : ℕ) → Type 0
IsUntiedAt l first n = (u : Untied) × (l.version ≡ Two) × (untied_at l ≡ Some u) × (n ≡ min (first + lines_before l u) (2 ^ 64 - 1))

-- why a log isn't taken, if it isn't: its records aren't tied, or there is no memory
abbrev pub TellsTie : BundleLog → (first : ℕ) → Option LogStop → Type 0
TellsTie l first None = IsTiedAs l.version l
TellsTie l first (Some (BadLog n)) = IsUntiedAt l first n
TellsTie l first (Some NoMemory) = Unit {0}

-- what stopped the reader of a part, with its line
abbrev pub stop_at : ℕ → LineStop → LogStop
stop_at line parts.BadLine = BadLog line
stop_at line parts.NoMemory = NoMemory

-- ---- the module of a bundle

-- the bytes spell this module, and no other
abbrev pub SpellsOnly : List ℕ → Module → Type 0
SpellsOnly = SpellsAlone

-- the bytes spell no module
abbrev pub SpellsNone : List ℕ → Type 0
SpellsNone bytes = (m : Module) → SpellsModule bytes m → ⊥

abbrev pub HasNoModule : List ℕ → LogStop → Type 0
HasNoModule bytes (BadLog l) = SpellsNone bytes
HasNoModule bytes NoMemory = Unit {0}
