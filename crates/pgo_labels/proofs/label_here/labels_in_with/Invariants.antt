-- What is made and what is left are the whole.
use Rattle.std.proofs.Common.{◌≡◌, ◌++◌, map, drop}
use Rattle.std.specs.Prelude.{flat_map}
use Rattle.pgo_labels.specs.Lent.{lent}
use Rattle.pgo_labels.specs.Parts.{see}
use Rattle.pgo_labels.specs.LabelHere as spec
use Rattle.pgo_labels.proofs.label_here.labels_in_with.Given as goal

abbrev pub invariant-loop-item : goal.invariant-loop-item
invariant-loop-item l =
    lent l.names.items ++ flat_map (λ i. spec.labels_in_with i.1) (map see (drop l.item-index l.items)) ≡ flat_map (λ i. spec.labels_in_with i.1) (map see l.items)
