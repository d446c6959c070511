use Rattle.std.proofs.Common.{◌≡◌, ◌++◌, map, drop}
use Rattle.pgo_base.specs.PairsView.{all_pairs}
use Rattle.pgo_base.specs.View.{pair_of}
use Rattle.pgo_sets.proofs.functions.add_pairs.Given as goal

abbrev pub invariant-loop-i : goal.invariant-loop-i
invariant-loop-i l = map pair_of l.all.items ++ map pair_of (drop l.i (all_pairs l.more)) ≡ map pair_of l.initial.all.items ++ map pair_of (all_pairs l.more)
