use Rattle.std.proofs.Common.{◌≡◌, ◌++◌, drop, map}
use Rattle.pgo_model.specs.Module.{process_step}
use Rattle.pgo_model.specs.ModuleView.{process_view}
use Rattle.pgo_module_trees.proofs.further.process_steps.Given as goal

abbrev pub invariant-loop-p : goal.invariant-loop-p
invariant-loop-p l = map process_step (map process_view l.processes) ≡ l.list.items ++ map process_step (map process_view (drop l.p-index l.processes))
