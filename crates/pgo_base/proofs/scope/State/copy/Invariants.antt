use Rattle.std.proofs.Common.{◌≡◌, ◌++◌, map, drop}
use Rattle.pgo_base.specs.View.{named_data}
use Rattle.pgo_base.proofs.scope.State.copy.Given as goal

abbrev pub invariant-loop-p : goal.invariant-loop-p
invariant-loop-p l = map named_data l.p-items ≡ map named_data l.list.items ++ map named_data (drop l.p-index l.p-items)
