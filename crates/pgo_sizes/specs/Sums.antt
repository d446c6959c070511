-- Nodes of expressions, and the highest of them.
use Rattle.std.specs.Prelude.{ℕ, suc, ◌+◌, max, Bool, if◌then◌else◌, List, [], ◌∷◌}
use Rattle.pgo_base.specs.Tree.{Tree}
use Rattle.pgo_expr_read.specs.Heights.{height}
use Rattle.pgo_sections.specs.Nodes.{tree_nodes}

abbrev pub nodes_in : List Tree → ℕ
nodes_in [] = 0
nodes_in (t ∷ ts) = tree_nodes t + nodes_in ts

abbrev pub highest_in : List Tree → ℕ
highest_in [] = 0
highest_in (t ∷ ts) = max (height t) (highest_in ts)

-- those behind the first stand in a tuple
abbrev pub highest_tupled : List Tree → ℕ
highest_tupled [] = 0
highest_tupled (t ∷ ts) = max (height t) (suc (highest_in ts))

abbrev pub highest_of : Bool → List Tree → ℕ
highest_of b ts = if b then highest_tupled ts else highest_in ts
