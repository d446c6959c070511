-- The lines of a text by their numbers, from 1.
use Rattle.std.specs.Prelude.{◌≤◌, ℕ, suc, if◌then◌else◌, nat_eq, List, [], ◌∷◌}
use Rattle.pgo_log_text.specs.declared.errors.LogStop.{LogStop}
use Rattle.pgo_log_text.specs.declared.errors.LogStop.TheVariants.{BadLog, NoMemory}

-- how many lines end in a text
abbrev pub newlines : List ℕ → ℕ
newlines [] = 0
newlines (b ∷ bs) = if nat_eq b 10 then suc (newlines bs) else newlines bs

-- a line of the text; the last one is behind the last that ends
abbrev pub IsLineOf : List ℕ → ℕ → Type 0
IsLineOf text n = (1 ≤ n) × (n ≤ suc (newlines text))

-- what refuses the text names a line of it
abbrev pub NamesLineOf : List ℕ → LogStop → Type 0
NamesLineOf text (BadLog n) = IsLineOf text n
NamesLineOf text NoMemory = Unit {0}
