use Rattle.std.proofs.Common.{◌≡◌, drop}
use Rattle.pgo_sections.specs.Nodes.{changes_nodes}
use Rattle.pgo_sizes.specs.Left.{left_after}
use Rattle.pgo_measure.proofs.measure.spend_changes.Given as goal

abbrev pub invariant-loop-change : goal.invariant-loop-change
invariant-loop-change l = left_after l.left (changes_nodes l.changes) ≡ left_after l.now (changes_nodes (drop l._change-index l.changes))
