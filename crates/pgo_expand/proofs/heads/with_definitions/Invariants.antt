use Rattle.std.proofs.Common.{◌≡◌, max, drop}
use Rattle.pgo_measure.specs.Heights.{capped}
use Rattle.pgo_expand.specs.Module as expected
use Rattle.pgo_expand.proofs.heads.with_definitions.Given as goal

abbrev pub invariant-loop-d : goal.invariant-loop-d
invariant-loop-d l =
    max l.fn.before (capped (expected.highest (expected.definitions_heights l.definitions)))
    ≡ max l.greatest (capped (expected.highest (expected.definitions_heights (drop l.d-index l.definitions))))
