use Rattle.std.proofs.Common.{◌≡◌, ◌++◌, map, drop}
use Rattle.pgo_expand.specs.Module.{own_in}
use Rattle.pgo_expand.proofs.expand.all_own.Given as goal

abbrev pub invariant-loop-process : goal.invariant-loop-process
invariant-loop-process l =
    map (own_in l.spec.archetypes) l.process-items ≡ l.list.items ++ map (own_in l.spec.archetypes) (drop l.process-index l.process-items)
