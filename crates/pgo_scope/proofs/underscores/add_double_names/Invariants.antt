-- What the loop keeps: what is found and what is left are the whole.
use Rattle.std.proofs.Common.{◌≡◌, ◌++◌, map, drop}
use Rattle.std.specs.Prelude.{flat_map}
use Rattle.pgo_scope.specs.Underscores.{double_name}
use Rattle.pgo_scope.proofs.underscores.add_double_names.Given as goal

abbrev pub invariant-loop-x : goal.invariant-loop-x
invariant-loop-x l =
    l.out.items ++ flat_map double_name (map (λ x. x.now) (drop l.x-index l.names)) ≡ l.initial.out.items ++ flat_map double_name (map (λ x. x.now) l.names)
