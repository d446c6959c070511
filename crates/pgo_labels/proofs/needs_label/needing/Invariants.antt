-- What is made and what is left are the whole.
use Rattle.std.proofs.Common.{◌≡◌, ◌++◌, map, drop}
use Rattle.std.specs.Prelude.{flat_map}
use Rattle.pgo_labels.specs.NeedsLabel as spec
use Rattle.pgo_labels.specs.Parts.{see}
use Rattle.pgo_labels.proofs.needs_label.needing.Given as goal

abbrev pub invariant-loop-item : goal.invariant-loop-item
invariant-loop-item l =
    map see l.items.items ++ flat_map (λ i. spec.loop_of i ++ spec.in_block i.1) (map see (drop l.item-index l.list)) ≡ spec.needing l.body
