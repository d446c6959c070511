-- What the loop keeps: what is made and what is left are the whole.
use Rattle.std.proofs.Common.{◌≡◌, ◌++◌, drop}
use Rattle.pgo_scope.specs.Clash.{value_names}
use Rattle.pgo_scope.proofs.module_names.add_value_names.Given as goal

abbrev pub invariant-loop-p : goal.invariant-loop-p
invariant-loop-p l = l.out.items ++ value_names (drop l.p-index l.list) ≡ l.initial.out.items ++ value_names l.list
