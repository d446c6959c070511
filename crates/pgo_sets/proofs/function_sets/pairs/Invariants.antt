use Rattle.std.proofs.Common.{map}
use Rattle.pgo_base.specs.View.{pair_of}
use Rattle.pgo_sets.proofs.Choosing.{PairsFrom}
use Rattle.pgo_sets.proofs.function_sets.pairs.Given as goal

abbrev pub invariant-loop-c : goal.invariant-loop-c
invariant-loop-c l = PairsFrom l.number l.choices (map pair_of l.pairs.items) l.block l.rest l.c-index
