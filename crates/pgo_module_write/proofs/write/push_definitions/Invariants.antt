use Rattle.std.proofs.Common.{◌≡◌, ◌++◌, drop, map}
use Rattle.pgo_model.specs.ModuleText.{flatten, flat_lines, defined_lines}
use Rattle.pgo_model.specs.ModuleView.{defined_view}
use Rattle.pgo_module_write.proofs.write.push_definitions.Given as goal

abbrev pub invariant-loop-d : goal.invariant-loop-d
invariant-loop-d l =
    l.bytes.items ++ flatten (flat_lines (map defined_lines (map defined_view (drop l.d-index l.definitions))))
    ≡ l.initial.bytes.items ++ flatten (flat_lines (map defined_lines (map defined_view l.definitions)))
