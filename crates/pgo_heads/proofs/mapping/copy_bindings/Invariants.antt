use Rattle.std.proofs.Common.{◌≡◌, ◌+◌, ◌++◌, drop}
use Rattle.pgo_heads.proofs.mapping.copy_bindings.Given as goal

abbrev pub invariant-loop-b : goal.invariant-loop-b
invariant-loop-b l =
    l.bindings ≡ l.list.items ++ drop l.b-index l.bindings
