use Rattle.std.proofs.Common.{◌≡◌, ◌++◌, map, drop}
use Rattle.pgo_base.specs.View.{data_of}
use Rattle.pgo_bind.proofs.runs.copies.Given as goal

abbrev pub invariant-loop-v : goal.invariant-loop-v
invariant-loop-v l =
    map data_of l.values ≡ map data_of l.list.items ++ map data_of (drop l.v-index l.values)
