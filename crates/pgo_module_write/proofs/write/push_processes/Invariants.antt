use Rattle.std.proofs.Common.{◌≡◌, ◌++◌, drop, map}
use Rattle.pgo_model.specs.ModuleText.{flatten, flat_lines, process_lines}
use Rattle.pgo_model.specs.ModuleView.{process_view}
use Rattle.pgo_module_write.proofs.write.push_processes.Given as goal

abbrev pub invariant-loop-p : goal.invariant-loop-p
invariant-loop-p l =
    l.bytes.items ++ flatten (flat_lines (map process_lines (map process_view (drop l.p-index l.processes))))
    ≡ l.initial.bytes.items ++ flatten (flat_lines (map process_lines (map process_view l.processes)))
