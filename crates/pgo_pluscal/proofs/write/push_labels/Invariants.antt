use Rattle.std.proofs.Common.{◌≡◌, ◌++◌, drop}
use Rattle.std.specs.List.{flat_map}
use Rattle.pgo_pluscal.specs.Text.{label_text}
use Rattle.pgo_pluscal.proofs.write.push_labels.Given as goal

abbrev pub invariant-loop-label : goal.invariant-loop-label
invariant-loop-label l = l.bytes.items ++ flat_map (label_text l.own) (drop l.label-index l.labels) ≡ l.initial.bytes.items ++ flat_map (label_text l.own) l.labels
