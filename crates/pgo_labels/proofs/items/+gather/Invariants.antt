-- What is made and what is left are the whole; a part nests less deep.
use Rattle.std.proofs.Common.{◌≡◌, ◌++◌, map, drop}
use Rattle.pgo_syntax.specs.StatementSize.{height}
use Rattle.pgo_syntax.specs.StatementView.{statement}
use Rattle.pgo_labels.specs.Inside.{inside, with_inside}
use Rattle.pgo_labels.specs.Parts.{see}
use Rattle.pgo_labels.proofs.items.+gather.Given as goal

abbrev pub decreases-gather : goal.decreases-gather
decreases-gather l = height (statement l.s.now)

abbrev pub invariant-loop-part : goal.invariant-loop-part
invariant-loop-part l =
    map see l.items.items ++ with_inside (map see (drop l.part-index l.list)) ≡ map see l.initial.items.items ++ inside (statement l.s)
