-- What is made and what is left are the whole.
use Rattle.std.proofs.Common.{◌≡◌, ◌++◌, map, drop}
use Rattle.pgo_labels.specs.Labels as spec
use Rattle.pgo_labels.specs.Lent.{lent}
use Rattle.pgo_labels.specs.Parts.{see}
use Rattle.pgo_labels.proofs.names.labels_of.Given as goal

abbrev pub invariant-loop-item : goal.invariant-loop-item
invariant-loop-item l = lent l.names.items ++ spec.labels_of (map see (drop l.item-index l.items)) ≡ spec.labels_of (map see l.items)
