-- The limits of a specification that is bound.
use Rattle.std.specs.Prelude.{ℕ, if◌then◌else◌, nat_lt, List, [], ◌∷◌}
pub use Rattle.pgo_model.specs.State.{state_depth, part_depth}

-- a count that is greater than the limit
abbrev pub more_than : ℕ → ℕ → List ℕ
more_than limit n = if nat_lt limit n then n ∷ [] else []
