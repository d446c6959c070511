-- Whether there is one is decided by what is left.
use Rattle.std.proofs.Common.{◌≡◌, map, drop}
use Rattle.std.specs.Prelude.{◌||◌, is_some}
use Rattle.std.specs.List.{list_any}
use Rattle.pgo_labels.specs.NeedsLabel as spec
use Rattle.pgo_labels.specs.Parts.{see}
use Rattle.pgo_labels.proofs.needs_label.any_jump.Given as goal

abbrev pub invariant-loop-item : goal.invariant-loop-item
invariant-loop-item l =
    list_any (λ i. is_some i.0 || spec.is_goto i.1) (map see (drop l.item-index l.items))
    ≡ list_any (λ i. is_some i.0 || spec.is_goto i.1) (map see l.items)
