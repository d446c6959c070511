-- What is counted so far is of the statements from there on; each call is about statements that nest less deep.
use Rattle.std.proofs.Common.{◌≡◌, ◌≤◌, ◌+◌, ◌*◌, map, drop, length}
use Rattle.pgo_syntax.specs.Statement.{guarded, labeled, statements}
use Rattle.pgo_syntax.specs.StatementSize.{height, statements_height, labeled_height, guarded_height}
use Rattle.pgo_syntax.specs.StatementView.{branch_parts, labeled_pair, statement}
use Rattle.pgo_least_nodes.specs.Counts as spec
use Rattle.pgo_least_nodes.proofs.statements.+counts.Given as goal

abbrev pub decreases-statement_counts : goal.decreases-statement_counts
decreases-statement_counts l = 2 * height (statement l.t.now)

abbrev pub decreases-arms_counts : goal.decreases-arms_counts
decreases-arms_counts l = 2 * statements_height (statements (map statement l.list.now)) + 1

abbrev pub decreases-branches_counts : goal.decreases-branches_counts
decreases-branches_counts l = 2 * guarded_height (guarded (map branch_parts l.list.now)) + 1

abbrev pub decreases-row_counts : goal.decreases-row_counts
decreases-row_counts l = 2 * labeled_height (labeled (map labeled_pair l.list.now)) + 1

abbrev pub invariant-arms_counts-loop-at : goal.invariant-arms_counts-loop-at
invariant-arms_counts-loop-at l = (l.all ≡ spec.arms_counts l.macros (statements (map statement (drop l.at l.list)))) × (l.at ≤ length l.list)

abbrev pub decreases-arms_counts-loop-at : goal.decreases-arms_counts-loop-at
decreases-arms_counts-loop-at l = l.at

abbrev pub invariant-branches_counts-loop-at : goal.invariant-branches_counts-loop-at
invariant-branches_counts-loop-at l =
    (l.all ≡ spec.branches_counts l.macros l.fn.other (guarded (map branch_parts (drop l.at l.list)))) × (l.at ≤ length l.list)

abbrev pub decreases-branches_counts-loop-at : goal.decreases-branches_counts-loop-at
decreases-branches_counts-loop-at l = l.at

abbrev pub invariant-row_counts-loop-at : goal.invariant-row_counts-loop-at
invariant-row_counts-loop-at l = (l.all ≡ spec.row_counts l.macros (labeled (map labeled_pair (drop l.at l.list)))) × (l.at ≤ length l.list)

abbrev pub decreases-row_counts-loop-at : goal.decreases-row_counts-loop-at
decreases-row_counts-loop-at l = l.at
