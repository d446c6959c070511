use Rattle.std.proofs.Common.{◌≡◌, ◌++◌, map, drop}
use Rattle.pgo_model.specs.Module.{process_definitions}
use Rattle.pgo_model.specs.ModuleView.{defined_view, process_view}
use Rattle.pgo_check.proofs.definitions.add_processes.Given as goal

abbrev pub invariant-loop-p : goal.invariant-loop-p
invariant-loop-p l =
    map defined_view l.fn.defs ++ process_definitions (map process_view l.processes) ≡ map defined_view l.defs ++ process_definitions (map process_view (drop l.p-index l.processes))
