-- What makes a list of variables with values a state, whatever the specification.
use Rattle.std.specs.Prelude.{Bool, true, ◌&&◌, nat_le, ℕ, [], ◌∷◌}
use Rattle.pgo_base.specs.Size.{depth}
use Rattle.pgo_base.specs.Lookup.{Vars}
use Rattle.pgo_model.specs.Value.{IsValue}

-- the greatest depth of a state's value
abbrev pub state_depth : ℕ
state_depth = 256

-- and of what stands one level below it: an identifier, what a function has at one, an element
abbrev pub part_depth : ℕ
part_depth = 255

abbrev pub is_shallow : Vars → Bool
is_shallow [] = true
is_shallow (p ∷ ps) = nat_le (depth p.1) state_depth && is_shallow ps

abbrev pub AllValues : Vars → Type 0
AllValues [] = Unit {0}
AllValues (p ∷ ps) = IsValue p.1 × AllValues ps
