use Rattle.std.proofs.Common.{◌≡◌, drop}
use Rattle.pgo_measure.specs.Heights.{capped}
use Rattle.pgo_expand.specs.Module as expected
use Rattle.pgo_expand.proofs.heads.joined_all.Given as goal

abbrev pub invariant-loop-height : goal.invariant-loop-height
invariant-loop-height l = capped (expected.joined l.heights) ≡ capped (expected.joined_behind l.so_far (drop l.height-index l.heights))
