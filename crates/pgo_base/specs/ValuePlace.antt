-- The value at a place of a graph.
use Rattle.std.specs.Prelude.{ℕ, zero, suc, List, [], ◌∷◌, Option, Some, None}
use Rattle.pgo_base.specs.Data.{Data}

-- the value at a place
abbrev pub value_in : ℕ → List (Data × Data) → Option Data
value_in n [] = None
value_in zero (p ∷ ps) = Some p.1
value_in (suc n) (p ∷ ps) = value_in n ps

-- the graph with another value at a place
abbrev pub set_value : ℕ → Data → List (Data × Data) → List (Data × Data)
set_value n v [] = []
set_value zero v (p ∷ ps) = (p.0, v) ∷ ps
set_value (suc n) v (p ∷ ps) = p ∷ set_value n v ps
