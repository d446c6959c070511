use Rattle.std.proofs.Common.{map}
use Rattle.pgo_base.specs.View.{data_of}
use Rattle.pgo_model.specs.Operators.{set_from, sublists}
use Rattle.pgo_sets.proofs.Each.{EachFrom}
use Rattle.pgo_sets.proofs.powers.subsets.Given as goal

abbrev pub invariant-loop-number : goal.invariant-loop-number
invariant-loop-number l = EachFrom set_from (sublists (map data_of l.members)) (map data_of l.all.items) l.number
