-- The lists of which a set of sets or of functions is made, each by its number.
use Rattle.std.specs.Prelude.{ℕ, ◌-◌, ◌^◌, nat_lt, if◌then◌else◌, List, [], ◌∷◌, length, Option, option_and_then}
use Rattle.pgo_base.specs.Data.{Data}
use Rattle.pgo_model.specs.Operators.{each, set_from, sublists, where_few}

-- the list with this number among those of some of these members: first those with the first member
abbrev pub subset_at : ℕ → List Data → List Data
subset_at k [] = []
subset_at k (m ∷ ms) = if nat_lt k (2 ^ length ms) then m ∷ subset_at k ms else subset_at (k - 2 ^ length ms) ms

-- the set of the sets of some of these members
abbrev pub powers : List Data → Option Data
powers ms = where_few (2 ^ length ms) (λ _. option_and_then set_from (each set_from (sublists ms)))
