use Rattle.std.proofs.Common.{◌≡◌, ◌++◌, map, drop}
use Rattle.pgo_measure.specs.Heights.{capped}
use Rattle.pgo_expand.specs.Module as expected
use Rattle.pgo_expand.proofs.heads.next_height.Given as goal

abbrev pub invariant-loop-height : goal.invariant-loop-height
invariant-loop-height l =
    map (λ h. capped (expected.step_height h)) l.ids
    ≡ l.items.items ++ map (λ h. capped (expected.step_height h)) (drop l.height-index l.ids)
