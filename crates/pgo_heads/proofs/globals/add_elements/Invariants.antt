use Rattle.std.proofs.Common.{◌≡◌, ◌+◌, ◌++◌, map, drop}
use Rattle.pgo_base.specs.PairsView.{all_pairs}
use Rattle.pgo_base.specs.View.{pair_of}
use Rattle.pgo_heads.specs.Views.{part_view}
use Rattle.pgo_bound.specs.BoundOf as bound
use Rattle.pgo_base.specs.Data.{keys}
use Rattle.pgo_heads.proofs.globals.add_elements.Given as goal

abbrev pub invariant-loop-i : goal.invariant-loop-i
invariant-loop-i l =
    map part_view l.fn.list.items ++ bound.elements_of l.global (keys (map pair_of (all_pairs l.pairs))) ≡ map part_view l.list.items ++ bound.elements_of l.global (keys (map pair_of (drop l.i (all_pairs l.pairs))))
