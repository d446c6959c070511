use Rattle.std.proofs.Common.{map}
use Rattle.pgo_base.specs.View.{data_of}
use Rattle.pgo_sets.proofs.Each.{EachFrom}
use Rattle.pgo_sets.proofs.Choosing.{made, lists}
use Rattle.pgo_sets.proofs.function_sets.functions_over.Given as goal

abbrev pub invariant-loop-number : goal.invariant-loop-number
invariant-loop-number l = EachFrom (made l.choices) (lists l.choices) (map data_of l.all.items) l.number
