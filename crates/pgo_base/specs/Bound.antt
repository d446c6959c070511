-- An upper bound of how deep a value nests.
use Rattle.std.specs.Prelude.{ℕ, min, ◌≤◌}

-- the greatest bound says nothing
abbrev pub IsBound : ℕ → ℕ → Type 0
IsBound bound n = min n 4294967295 ≤ bound
