-- What the loop keeps: what is found and what is left are the whole.
use Rattle.std.proofs.Common.{◌≡◌, ◌++◌, drop}
use Rattle.std.specs.Prelude.{flat_map}
use Rattle.pgo_scope.specs.Modules.{unknown_module}
use Rattle.pgo_scope.proofs.modules.add_unknown_modules.Given as goal

abbrev pub invariant-loop-x : goal.invariant-loop-x
invariant-loop-x l = l.out.items ++ flat_map unknown_module (drop l.x-index l.x-items) ≡ l.initial.out.items ++ flat_map unknown_module l.x-items
