-- What is made and what is left are the whole.
use Rattle.std.proofs.Common.{◌≡◌, ◌++◌, Bool, drop}
use Rattle.std.specs.Prelude.{filter}
use Rattle.pgo_base.specs.Lookup.{same_name}
use Rattle.pgo_syntax.specs.declared.name.PlacedName.{PlacedName}
use Rattle.pgo_labels.specs.Labels.{done}
use Rattle.pgo_labels.specs.Lent.{lent}
use Rattle.pgo_labels.proofs.reserved_done.reserved.Given as goal

abbrev pub invariant-loop-label : goal.invariant-loop-label
invariant-loop-label l =
    let p : PlacedName → Bool = λ t. same_name t.name done in
    lent l.names.items ++ filter p (lent (drop l.label-index l.labels)) ≡ filter p (lent l.labels)
