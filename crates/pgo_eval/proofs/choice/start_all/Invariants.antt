use Rattle.std.proofs.Common.{◌≡◌, ◌++◌, map, take, drop}
use Rattle.pgo_eval.specs.Choices.{restarted}
use Rattle.pgo_eval.proofs.choice.start_all.Given as goal

abbrev pub invariant-loop-i : goal.invariant-loop-i
invariant-loop-i l = l.bound ≡ map restarted (take l.i l.initial.bound) ++ drop l.i l.initial.bound
