-- What the loop keeps: what is made and what is left are the whole.
use Rattle.std.proofs.Common.{◌≡◌, ◌++◌, drop}
use Rattle.pgo_uses.specs.AllUses.{variable_names}
use Rattle.pgo_scope.proofs.module_names.add_variable_names.Given as goal

abbrev pub invariant-loop-d : goal.invariant-loop-d
invariant-loop-d l = l.out.items ++ variable_names (drop l.d-index l.list) ≡ l.initial.out.items ++ variable_names l.list
