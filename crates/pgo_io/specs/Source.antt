-- What was taken from a source.
use Rattle.std.specs.Prelude.{ℕ, ◌≤◌, List, length, Option}
use Rattle.std.specs.Io.KnownBytes.{Consumes}

-- Where the source told what it has left, it tells the same less a front of at most n bytes.
abbrev pub LosesAtMost : Option (List ℕ) → Option (List ℕ) → ℕ → Type 0
LosesAtMost old new n = (bs : List ℕ) × Consumes old new bs × (length bs ≤ n)
