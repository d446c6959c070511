use Rattle.std.proofs.Common.{map}
use Rattle.pgo_base.specs.View.{data_of}
use Rattle.pgo_sets.proofs.Members.{JoinedFrom}
use Rattle.pgo_sets.proofs.set_operators.union_of.Given as goal

abbrev pub invariant-loop-v : goal.invariant-loop-v
invariant-loop-v l = JoinedFrom l.v-items (map data_of l.members.items) l.v-index
