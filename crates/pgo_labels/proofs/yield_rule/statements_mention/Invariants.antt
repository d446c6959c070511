-- Whether they are about the name is decided by what is left.
use Rattle.std.proofs.Common.{◌≡◌, map, drop}
use Rattle.pgo_labels.specs.Parts.{see}
use Rattle.pgo_labels.specs.YieldRule as spec
use Rattle.pgo_labels.proofs.yield_rule.statements_mention.Given as goal

abbrev pub invariant-loop-item : goal.invariant-loop-item
invariant-loop-item l = spec.statements_mention l.name (map see (drop l.item-index l.items)) ≡ spec.statements_mention l.name (map see l.items)
