use Rattle.std.proofs.Common.{◌≡◌, ◌++◌, map, drop}
use Rattle.pgo_resource.specs.Kept.{own_view, own_in}
use Rattle.pgo_resource.proofs.layout.all_own.Given as goal

abbrev pub invariant-loop-p : goal.invariant-loop-p
invariant-loop-p l = map (own_in l.spec) l.spec.processes ≡ map own_view l.list.items ++ map (own_in l.spec) (drop l.p-index l.spec.processes)
