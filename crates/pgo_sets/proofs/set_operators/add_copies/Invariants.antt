use Rattle.std.proofs.Common.{◌≡◌, ◌++◌, map, drop}
use Rattle.pgo_base.specs.View.{data_of}
use Rattle.pgo_sets.proofs.set_operators.add_copies.Given as goal

abbrev pub invariant-loop-v : goal.invariant-loop-v
invariant-loop-v l = map data_of l.all.items ++ map data_of (drop l.v-index l.more) ≡ map data_of l.initial.all.items ++ map data_of l.more
