use Rattle.std.proofs.Common.{◌≡◌, max, drop}
use Rattle.pgo_expand.specs.Module as expected
use Rattle.pgo_expand.proofs.heads.highest.Given as goal

abbrev pub invariant-loop-height : goal.invariant-loop-height
invariant-loop-height l = expected.highest l.heights ≡ max l.greatest (expected.highest (drop l.height-index l.heights))
