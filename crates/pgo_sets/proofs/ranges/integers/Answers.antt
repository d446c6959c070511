use Rattle.std.proofs.Common.{map, sym, subst}
use Rattle.pgo_base.specs.Sets.{IsSorted}
use Rattle.pgo_base.specs.View.{data_of}
use Rattle.pgo_sets.proofs.Upward.{sorted_nothing}
use Rattle.pgo_sets.proofs.ranges.integers.Goals as goal

pub sorted_set-requires : goal.sorted_set-requires
sorted_set-requires c = subst (λ vs. IsSorted (map data_of vs)) (sym c.new.ensures.items) sorted_nothing
