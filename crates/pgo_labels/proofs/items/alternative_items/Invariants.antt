-- What is made and what is left are the whole.
use Rattle.std.proofs.Common.{◌≡◌, ◌++◌, map, drop}
use Rattle.pgo_syntax.specs.Statement.{statements}
use Rattle.pgo_syntax.specs.StatementView.{statement}
use Rattle.pgo_labels.specs.Parts as spec
use Rattle.pgo_labels.specs.Parts.{see}
use Rattle.pgo_labels.proofs.items.alternative_items.Given as goal

abbrev pub invariant-loop-one : goal.invariant-loop-one
invariant-loop-one l = map see l.items.items ++ spec.alternative_items (statements (map statement (drop l.one-index l.list))) ≡ spec.alternative_items (statements l.alternatives)
