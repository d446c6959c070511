use Rattle.std.proofs.Common.{◌≡◌, ◌++◌, map, drop}
use Rattle.pgo_pluscal.specs.PlusCalOf.{process_of}
use Rattle.pgo_expand.proofs.expand.processes.Given as goal

abbrev pub invariant-loop-process : goal.invariant-loop-process
invariant-loop-process l =
    map (process_of l.spec) l.process-items ≡ l.list.items ++ map (process_of l.spec) (drop l.process-index l.process-items)
