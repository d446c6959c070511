use Rattle.std.proofs.Common.{◌≡◌, map, drop}
use Rattle.pgo_model.specs.ModuleView.{process_view}
use Rattle.pgo_show_text.specs.Facts as spec
use Rattle.pgo_show_text.proofs.places.action_at.Given as goal

abbrev pub invariant-loop-process : goal.invariant-loop-process
invariant-loop-process l = spec.action_at l.label (map process_view l.processes) ≡ spec.action_at l.label (map process_view (drop l.process-index l.processes))
