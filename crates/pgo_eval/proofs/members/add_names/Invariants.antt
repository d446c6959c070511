use Rattle.std.proofs.Common.{◌≡◌, ◌++◌, [], drop}
use Rattle.pgo_model.specs.Val.{over_each}
use Rattle.pgo_eval.specs.Choices.{over_bound}
use Rattle.pgo_eval.proofs.members.add_names.Given as goal

abbrev pub invariant-loop-x : goal.invariant-loop-x
invariant-loop-x l =
    over_bound l.initial.all.items ++ over_each l.names l.set [] ≡ over_bound l.all.items ++ over_each (drop l.x-index l.names) l.set []
