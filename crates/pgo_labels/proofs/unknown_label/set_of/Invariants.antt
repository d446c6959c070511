-- A name is in the set or among the labels that are left where it is among all.
use Rattle.std.proofs.Common.{◌≡◌, map, drop}
use Rattle.std.specs.Prelude.{◌||◌}
use Rattle.pgo_base.specs.Lookup.{Name}
use Rattle.pgo_model.specs.Names.{is_among}
use Rattle.pgo_base.specs.NameMaps.{has_name}
use Rattle.pgo_labels.specs.Lent.{lent}
use Rattle.pgo_labels.proofs.unknown_label.set_of.Given as goal

abbrev pub invariant-loop-label : goal.invariant-loop-label
invariant-loop-label l = (n : Name) → has_name l.label_set n || is_among n (map (λ l. l.name) (lent (drop l.label-index l.labels))) ≡ is_among n (map (λ l. l.name) (lent l.labels))
