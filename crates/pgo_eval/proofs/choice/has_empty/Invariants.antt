use Rattle.std.proofs.Common.{◌≡◌, drop}
use Rattle.pgo_eval.specs.Choices.{has_empty}
use Rattle.pgo_eval.proofs.choice.has_empty.Given as goal

abbrev pub invariant-loop-b : goal.invariant-loop-b
invariant-loop-b l = has_empty l.bound ≡ has_empty (drop l.b-index l.bound)
