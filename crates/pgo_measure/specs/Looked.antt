-- The measure behind a statement.
use Rattle.std.specs.Prelude.{ℕ, suc, ◌+◌, max, Option, Some, None, option_map}
use Rattle.pgo_expr_read.specs.Heights.{height}
use Rattle.pgo_sections.specs.Nodes.{tree_nodes}
use Rattle.pgo_sizes.specs.Left.{left_after}
use Rattle.pgo_walk.specs.declared.event.Move.{Move}
use Rattle.pgo_walk.specs.declared.event.Move.TheVariants as moves
use Rattle.pgo_measure.specs.declared.tally.Tally.{Tally}
use Rattle.pgo_measure.specs.Heights.{capped, join}
use Rattle.pgo_measure.specs.Spots.{shift}

-- n nodes are spent, and what follows stands in a form whose other part has height g
abbrev pub in_form : Tally → ℕ → ℕ → Option Tally
in_form t g n = option_map (λ l. record { left = l; height = capped (max t.height (t.spot.depth + join t.spot.before (suc g))); spot = record { before = None; depth = capped (suc (t.spot.depth + shift t.spot.before)) } }) (left_after t.left n)

-- n nodes are spent, and what follows stands behind one item more, of height g
abbrev pub behind_item : Tally → ℕ → ℕ → Option Tally
behind_item t g n = option_map (λ l. record { left = l; height = t.height; spot = record { before = Some (capped (join t.spot.before g)); depth = t.spot.depth } }) (left_after t.left n)

abbrev pub looked : Tally → Move → Option Tally
looked t (moves.With y e) = in_form t (suc (height e)) (suc (tree_nodes e))
looked t (moves.In y e) = in_form t (height e) (suc (tree_nodes e))
looked t moves.Skip = option_map (λ l. record { left = l; height = t.height; spot = t.spot }) (left_after t.left 1)
looked t (moves.Await e) = behind_item t (height e) (suc (tree_nodes e))
looked t (moves.Assert e) = behind_item t (suc (max (height e) 1)) (suc (tree_nodes e))
looked t (moves.Print e) = behind_item t (suc (height e)) (suc (tree_nodes e))
