-- What the loop keeps: what is made and what is left are the whole.
use Rattle.std.proofs.Common.{◌≡◌, ◌++◌, drop}
use Rattle.pgo_scope.specs.Clash.{own_rows, process_module_names}
use Rattle.pgo_scope.proofs.module_names.add_process_module_names.Given as goal

abbrev pub invariant-loop-p : goal.invariant-loop-p
invariant-loop-p l = l.out.items ++ process_module_names (own_rows 0 l.archetypes) (drop l.p-index l.list) ≡ l.initial.out.items ++ process_module_names (own_rows 0 l.archetypes) l.list
