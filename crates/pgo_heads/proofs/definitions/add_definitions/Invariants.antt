use Rattle.std.proofs.Common.{◌≡◌, ◌+◌, ◌++◌, map, drop}
use Rattle.pgo_bound.specs.Values as values
use Rattle.pgo_heads.proofs.definitions.add_definitions.Given as goal

abbrev pub invariant-loop-d : goal.invariant-loop-d
invariant-loop-d l =
    l.fn.defs ++ map values.meant l.definitions ≡ l.defs ++ map values.meant (drop l.d-index l.definitions)
