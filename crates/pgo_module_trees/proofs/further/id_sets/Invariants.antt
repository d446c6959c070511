use Rattle.std.proofs.Common.{◌≡◌, ◌++◌, drop, map}
use Rattle.pgo_model.specs.ModuleView.{process_view}
use Rattle.pgo_module_trees.proofs.further.id_sets.Given as goal

abbrev pub invariant-loop-p : goal.invariant-loop-p
invariant-loop-p l = map (λ p. p.ids) (map process_view l.processes) ≡ l.list.items ++ map (λ p. p.ids) (map process_view (drop l.p-index l.processes))
