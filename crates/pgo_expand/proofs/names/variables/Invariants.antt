use Rattle.std.proofs.Common.{◌≡◌, ◌++◌, map, drop}
use Rattle.std.specs.List.{flat_map}
use Rattle.pgo_expand.proofs.names.variables.Given as goal

abbrev pub invariant-loop-list : goal.invariant-loop-list
invariant-loop-list l =
    l.initial.names.items ++ flat_map (λ ds. map (λ d. d.name.name) ds) l.own ≡ l.names.items ++ flat_map (λ ds. map (λ d. d.name.name) ds) (drop l.list-index l.own)
