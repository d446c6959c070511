use Rattle.std.proofs.Common.{◌≡◌, drop}
use Rattle.pgo_mpcal_read.specs.ReadingSpec.{are_within_depth}
use Rattle.pgo_mpcal_read.proofs.reader.too_deep_archetype.Given as goal

abbrev pub invariant-loop-a : goal.invariant-loop-a
invariant-loop-a l = are_within_depth l.macros l.list ≡ are_within_depth l.macros (drop l.a-index l.list)
