use Rattle.std.proofs.Common.{◌≡◌, ◌++◌, map, drop}
use Rattle.pgo_measure.specs.Heights.{capped}
use Rattle.pgo_expand.specs.Module as expected
use Rattle.pgo_expand.proofs.heads.heights_of_ids.Given as goal

abbrev pub invariant-loop-p : goal.invariant-loop-p
invariant-loop-p l =
    map (λ p. capped (expected.ids_height p.ids)) l.processes
    ≡ l.heights.items ++ map (λ p. capped (expected.ids_height p.ids)) (drop l.p-index l.processes)
