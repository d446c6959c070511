-- What the loop keeps: what is made and what is left are the whole.
use Rattle.std.proofs.Common.{◌≡◌, ◌++◌, drop}
use Rattle.pgo_scope.specs.Clash.{bound_module_names}
use Rattle.pgo_scope.proofs.module_names.add_bound_module_names.Given as goal

abbrev pub invariant-loop-u : goal.invariant-loop-u
invariant-loop-u l = l.out.items ++ bound_module_names (drop l.u-index l.uses) ≡ l.initial.out.items ++ bound_module_names l.uses
