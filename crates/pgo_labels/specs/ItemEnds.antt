-- Rows of statements that end in a `yield`, as lists.
use Rattle.std.specs.Prelude.{Bool, true, false, ◌&&◌, not, List, [], ◌∷◌}
use Rattle.pgo_labels.specs.Inside.{Item}
use Rattle.pgo_labels.specs.YieldRule.{has_yield, ends_in_yield}

-- each ends in a `yield`
abbrev pub all_items_end : List Item → Bool
all_items_end [] = true
all_items_end (i ∷ is) = ends_in_yield i.1 && all_items_end is

-- the last ends in a `yield`, and none before it has one
abbrev pub items_end : List Item → Bool
items_end [] = false
items_end (i ∷ []) = ends_in_yield i.1
items_end (i ∷ j ∷ is) = not (has_yield i.1) && items_end (j ∷ is)
