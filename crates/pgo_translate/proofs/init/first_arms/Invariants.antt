use Rattle.std.proofs.Common.{◌≡◌, ◌++◌, drop, map}
use Rattle.pgo_translate.specs.ModuleOf.{first_arm}
use Rattle.pgo_translate.proofs.init.first_arms.Given as goal

abbrev pub invariant-loop-process : goal.invariant-loop-process
invariant-loop-process l = map first_arm l.processes ≡ l.list ++ map first_arm (drop l.process-index l.processes)
