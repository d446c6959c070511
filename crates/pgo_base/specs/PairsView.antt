-- The pairs of a function as one list: as they lie in memory, and as they are lent.
use Rattle.std.specs.Prelude.{List, ◌++◌}
use Rattle.pgo_base.specs.declared.value.Value.{Value}
use Rattle.pgo_base.specs.declared.value.Parts.{Parts}
use Rattle.pgo_base.specs.declared.pairs.Pairs.{Pairs}
use Rattle.pgo_base.specs.SharedItems.{shared_items}

-- the pairs of both parts
abbrev pub in_parts : Parts → List (Value × Value)
in_parts p = shared_items p.front ++ p.back.items

-- those of the front, and behind them the others
abbrev pub all_pairs : Pairs → List (Value × Value)
all_pairs p = p.front.now ++ p.back.now
