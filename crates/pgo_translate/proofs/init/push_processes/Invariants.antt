use Rattle.std.proofs.Common.{◌≡◌, ◌++◌, drop}
use Rattle.std.specs.List.{flat_map}
use Rattle.pgo_translate.specs.ModuleOf.{process_starts}
use Rattle.pgo_translate.proofs.init.push_processes.Given as goal

abbrev pub invariant-loop-process : goal.invariant-loop-process
invariant-loop-process l =
    l.items.items ++ flat_map process_starts (drop l.process-index l.processes) ≡ l.initial.items.items ++ flat_map process_starts l.processes
