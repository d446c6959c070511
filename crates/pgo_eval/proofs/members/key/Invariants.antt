use Rattle.std.proofs.Common.{◌≡◌, ◌++◌, map, drop}
use Rattle.pgo_base.specs.View.{data_of}
use Rattle.pgo_eval.specs.Choices.{chosen, AreAt}
use Rattle.pgo_eval.proofs.members.key.Given as goal

abbrev pub invariant-loop-b : goal.invariant-loop-b
invariant-loop-b l = record {
  all : chosen l.bound ≡ map data_of l.all.items ++ chosen (drop l.b-index l.bound);
  at : AreAt (drop l.b-index l.bound);
}
