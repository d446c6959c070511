use Rattle.std.proofs.Common.{max, map, drop}
use Rattle.pgo_base.specs.Bound.{IsBound}
use Rattle.pgo_base.specs.View.{pair_of}
use Rattle.pgo_base.specs.Size.{graph_size}
use Rattle.pgo_base.proofs.extent.extent_of_pairs.Given as goal

abbrev pub invariant-loop-p : goal.invariant-loop-p
invariant-loop-p l = IsBound (max l.all.bound (graph_size (map pair_of (drop l.p-index l.pairs)))) (graph_size (map pair_of l.pairs))
