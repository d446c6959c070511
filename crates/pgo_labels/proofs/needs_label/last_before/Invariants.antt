-- The last so far and what is left give the last of all.
use Rattle.std.proofs.Common.{◌≡◌, [], drop}
use Rattle.pgo_labels.specs.NeedsLabel as spec
use Rattle.pgo_labels.specs.Lent.{lent}
use Rattle.pgo_labels.proofs.needs_label.last_before.Given as goal

abbrev pub invariant-loop-label : goal.invariant-loop-label
invariant-loop-label l = spec.last_before l.place l.last (lent (drop l.label-index l.labels)) ≡ spec.last_before l.place [] (lent l.labels)
