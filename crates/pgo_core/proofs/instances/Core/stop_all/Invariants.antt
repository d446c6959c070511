use Rattle.pgo_core.specs.Instances.{Safe, StoppedBelow}
use Rattle.pgo_core.proofs.instances.Core.stop_all.Given as goal

abbrev pub invariant-loop-k : goal.invariant-loop-k
invariant-loop-k g l = record { safe : Safe l.self; stopped : StoppedBelow l.k l.fn.self l.self }
