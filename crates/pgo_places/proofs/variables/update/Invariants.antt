-- Behind the variables up to here, what is left is still to be done.
use Rattle.std.proofs.Common.{◌≡◌, map}
use Rattle.std.specs.Prelude.{option_map}
use Rattle.pgo_base.specs.BindingsView.{named_view}
use Rattle.pgo_base.specs.View.{data_of}
use Rattle.pgo_places.specs.Meant.{test_of}
use Rattle.pgo_places.specs.Stands.{updated}
use Rattle.pgo_places.proofs.Updates.{behind}
use Rattle.pgo_places.proofs.variables.update.Given as goal

abbrev pub invariant-loop-variable : goal.invariant-loop-variable
invariant-loop-variable l =
    behind l.variable-index (updated (test_of l.meant) (option_map (λ r. data_of r.now) l.value) l.left) (map named_view l.variable-items)
    ≡ updated (test_of l.meant) (option_map (λ r. data_of r.now) l.value) l.owners (map named_view l.initial.variable-items)
