use Rattle.std.proofs.Common.{◌≡◌, ◌++◌, drop}
use Rattle.std.specs.List.{flat_map}
use Rattle.pgo_translate.specs.ModuleOf.{declared}
use Rattle.pgo_translate.proofs.translate.push_own.Given as goal

abbrev pub invariant-loop-process : goal.invariant-loop-process
invariant-loop-process l =
    l.names.items ++ flat_map (λ q. declared q.variables) (drop l.process-index l.processes)
    ≡ l.initial.names.items ++ flat_map (λ q. declared q.variables) l.processes
