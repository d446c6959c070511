-- Whether there is one is decided by what is left.
use Rattle.std.proofs.Common.{◌≡◌, map, drop}
use Rattle.std.specs.List.{list_any}
use Rattle.pgo_labels.specs.Parts.{see}
use Rattle.pgo_labels.specs.YieldRule as spec
use Rattle.pgo_labels.proofs.yield_rule.any_forbidden.Given as goal

abbrev pub invariant-loop-item : goal.invariant-loop-item
invariant-loop-item l = list_any (λ i. spec.is_forbidden i.1) (map see (drop l.item-index l.items)) ≡ list_any (λ i. spec.is_forbidden i.1) (map see l.items)
