use Rattle.std.proofs.Common.{map}
use Rattle.pgo_base.specs.View.{data_of}
use Rattle.pgo_sets.proofs.Subsets.{ChosenFrom}
use Rattle.pgo_sets.proofs.powers.subset.Given as goal

abbrev pub invariant-loop-m : goal.invariant-loop-m
invariant-loop-m l = ChosenFrom l.number l.members (map data_of l.some.items) l.rest l.half l.m-index
