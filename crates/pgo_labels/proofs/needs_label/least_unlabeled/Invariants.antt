-- The sooner of what is found and what is left is the least of all.
use Rattle.std.proofs.Common.{◌≡◌, map, drop}
use Rattle.pgo_labels.specs.NeedsLabel as spec
use Rattle.pgo_syntax.specs.Least.{sooner_of, least}
use Rattle.pgo_labels.specs.Parts.{see}
use Rattle.pgo_labels.proofs.needs_label.least_unlabeled.Given as goal

abbrev pub invariant-loop-item : goal.invariant-loop-item
invariant-loop-item l =
    sooner_of (λ p. p) l.found (least (λ p. p) (spec.unlabeled_places (map see (drop l.item-index l.items))))
    ≡ least (λ p. p) (spec.unlabeled_places (map see l.items))
