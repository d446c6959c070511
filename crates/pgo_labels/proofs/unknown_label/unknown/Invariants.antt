-- What is made and what is left are the whole.
use Rattle.std.proofs.Common.{◌≡◌, ◌++◌, Bool, map, drop}
use Rattle.std.specs.Prelude.{◌||◌, not, filter}
use Rattle.pgo_base.specs.Lookup.{same_name}
use Rattle.pgo_model.specs.Names.{is_among}
use Rattle.pgo_syntax.specs.declared.name.PlacedName.{PlacedName}
use Rattle.pgo_labels.specs.Labels.{done}
use Rattle.pgo_labels.specs.Lent.{lent}
use Rattle.pgo_labels.proofs.unknown_label.unknown.Given as goal

abbrev pub invariant-loop-target : goal.invariant-loop-target
invariant-loop-target l =
    let p : PlacedName → Bool = λ t. not (is_among t.name (map (λ l. l.name) (lent l.labels)) || same_name t.name done) in
    lent l.names.items ++ filter p (lent (drop l.target-index l.targets)) ≡ filter p (lent l.targets)
