-- What the loop keeps: what is made and what is left are the whole.
use Rattle.std.proofs.Common.{◌≡◌, ◌++◌}
use Rattle.pgo_scope.proofs.module_names.module_names.Given as goal

abbrev pub invariant-loop-t : goal.invariant-loop-t
invariant-loop-t l = l.all.items ++ l.t-iterator.rest.items ≡ l.initial.all.items ++ l.initial.t-iterator.rest.items
