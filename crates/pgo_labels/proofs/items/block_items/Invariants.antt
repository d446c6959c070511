-- What is made and what is left are the whole.
use Rattle.std.proofs.Common.{◌≡◌, ◌++◌, map, drop}
use Rattle.pgo_syntax.specs.Statement.{labeled}
use Rattle.pgo_syntax.specs.StatementView.{labeled_pair}
use Rattle.pgo_labels.specs.Parts as spec
use Rattle.pgo_labels.specs.Parts.{see}
use Rattle.pgo_labels.proofs.items.block_items.Given as goal

abbrev pub invariant-loop-one : goal.invariant-loop-one
invariant-loop-one l = map see l.items.items ++ spec.items (labeled (map labeled_pair (drop l.one-index l.list))) ≡ spec.items (labeled l.block)
