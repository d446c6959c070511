-- How many nodes expansions have, and how high they are in the module, up to limits, with parts of them still to be looked at.
use Rattle.std.specs.Prelude.{ℕ, ◌+◌, max, List, [], ◌∷◌, Option, option_map}
use Rattle.pgo_base.specs.Lookup.{Name}
use Rattle.pgo_sections.specs.Expansion.{Expansion}
use Rattle.pgo_sections.specs.Nodes.{nodes}
use Rattle.pgo_sizes.specs.Left.{left_after}
use Rattle.pgo_measure.specs.Heights.{capped, action_height}
use Rattle.pgo_measure.specs.declared.spot.Spot.{Spot}

-- an expansion that is still to be looked at
pub record Part : Type 0 where
  pub spot : Spot
  pub tree : Expansion

abbrev pub nodes_in : List Part → ℕ
nodes_in [] = 0
nodes_in (p ∷ ps) = nodes p.tree + nodes_in ps

module _ (variables globals : List Name) where
  abbrev pub height_at : Spot → Expansion → ℕ
  height_at s x = s.depth + action_height variables globals s.before x

  abbrev pub highest : List Part → ℕ
  highest [] = 0
  highest (p ∷ ps) = max (height_at p.spot p.tree) (highest ps)

  -- what is left of the limit on nodes and how high all is, where l is left and h is the height so far; nothing where the nodes pass
  -- the limit
  abbrev pub measured : ℕ → ℕ → List Part → Option (ℕ × ℕ)
  measured l h ps = option_map (λ m. (m, capped (max h (highest ps)))) (left_after l (nodes_in ps))
