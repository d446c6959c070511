-- What the loop keeps: what is made and what is left are the whole.
use Rattle.std.proofs.Common.{◌≡◌, ◌++◌, drop}
use Rattle.pgo_scope.specs.Clash.{own_module_names}
use Rattle.pgo_scope.proofs.module_names.add_own_module_names.Given as goal

abbrev pub invariant-loop-l : goal.invariant-loop-l
invariant-loop-l l = l.out.items ++ own_module_names l.p (drop l.l-index l.names) ≡ l.initial.out.items ++ own_module_names l.p l.names
