-- Places that are too far behind.
use Rattle.std.specs.Prelude.{◌≤◌, ℕ, Result, Ok, Err}
use Rattle.pgo_lexer.specs.declared.errors.TextStop.{TextStop}
use Rattle.pgo_lexer.specs.declared.errors.TextStop.TheVariants.{Syntax, NoMemory}

-- the place of a token that begins at this offset is no want of memory, unless that is at 4 GiB or behind it
abbrev pub IsFarIfNoMemory : {A : Type 0} → ℕ → Result A TextStop → Type 0
IsFarIfNoMemory start (Ok a) = Unit {0}
IsFarIfNoMemory start (Err (Syntax n)) = Unit {0}
IsFarIfNoMemory start (Err NoMemory) = 4294967296 ≤ start
