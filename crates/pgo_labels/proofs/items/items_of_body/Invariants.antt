-- What is made and what is left are the whole.
use Rattle.std.proofs.Common.{◌≡◌, ◌++◌, map, drop}
use Rattle.pgo_syntax.specs.StatementView.{labeled_pair}
use Rattle.pgo_labels.specs.Inside.{with_inside}
use Rattle.pgo_labels.specs.Parts.{see}
use Rattle.pgo_labels.proofs.items.items_of_body.Given as goal

abbrev pub invariant-loop-one : goal.invariant-loop-one
invariant-loop-one l = map see l.items.items ++ with_inside (map labeled_pair (drop l.one-index l.list)) ≡ with_inside l.body
