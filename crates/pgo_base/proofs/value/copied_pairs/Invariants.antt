use Rattle.std.proofs.Common.{◌≡◌, map, take}
use Rattle.pgo_base.specs.PairsView.{all_pairs}
use Rattle.pgo_base.specs.View.{pair_of}
use Rattle.pgo_base.proofs.value.copied_pairs.Given as goal

abbrev pub invariant-loop-i : goal.invariant-loop-i
invariant-loop-i l = map pair_of l.list.items ≡ map pair_of (take l.i (all_pairs l.pairs))
