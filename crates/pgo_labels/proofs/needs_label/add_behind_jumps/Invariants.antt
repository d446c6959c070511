-- What is made and what is left are the whole.
use Rattle.std.proofs.Common.{◌≡◌, ◌++◌, map, drop}
use Rattle.pgo_syntax.specs.Statement.{labeled}
use Rattle.pgo_syntax.specs.StatementView.{labeled_pair}
use Rattle.pgo_labels.specs.NeedsLabel as spec
use Rattle.pgo_labels.specs.Parts.{see}
use Rattle.pgo_labels.proofs.needs_label.add_behind_jumps.Given as goal

abbrev pub invariant-loop-one : goal.invariant-loop-one
invariant-loop-one l =
    map see l.items.items ++ spec.behind_jumps l.needs (labeled (map labeled_pair (drop l.one-index l.list)))
    ≡ map see l.initial.items.items ++ spec.behind_jumps l.first (labeled l.block)
