-- What is made and what is left are the whole.
use Rattle.std.proofs.Common.{◌≡◌, ◌++◌, map, drop}
use Rattle.pgo_labels.specs.UnknownLabel as spec
use Rattle.pgo_labels.specs.Lent.{lent}
use Rattle.pgo_labels.specs.Parts.{see}
use Rattle.pgo_labels.proofs.unknown_label.targets_of.Given as goal

abbrev pub invariant-loop-item : goal.invariant-loop-item
invariant-loop-item l = lent l.names.items ++ spec.targets_of (map see (drop l.item-index l.items)) ≡ spec.targets_of (map see l.items)
