use Rattle.std.proofs.Common.{◌≡◌, map, take}
use Rattle.pgo_base.specs.View.{data_of}
use Rattle.pgo_sets.specs.Choices.{choice_of}
use Rattle.pgo_sets.proofs.choice.function_choices.Given as goal

abbrev pub invariant-loop-k : goal.invariant-loop-k
invariant-loop-k l = map choice_of l.choices.items ≡ map (λ v. (data_of v, l.members)) (take l.k-index l.domain)
