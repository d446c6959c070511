use Rattle.std.proofs.Common.{◌≡◌, ◌++◌, map, drop}
use Rattle.pgo_bound.specs.State.{names_with}
use Rattle.pgo_resource.proofs.layout.names_by.Given as goal

abbrev pub invariant-loop-d : goal.invariant-loop-d
invariant-loop-d l = names_with l.process l.archetype ≡ l.list.items ++ map (λ d. d.name.name) (drop l.d-index l.archetype.locals)
