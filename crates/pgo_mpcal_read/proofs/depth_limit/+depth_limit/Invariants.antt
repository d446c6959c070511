use Rattle.std.proofs.Common.{◌≡◌, ◌+◌, ◌*◌, nat_le, map, drop}
use Rattle.pgo_syntax.specs.Statement.{statements, labeled, guarded}
use Rattle.pgo_syntax.specs.StatementView.{statement, labeled_pair, branch_parts}
use Rattle.pgo_mpcal_read.specs.Depths.{statements_depth, labeled_depth, guarded_depth}
use Rattle.pgo_mpcal_read.proofs.depth_limit.+depth_limit.Given as goal

abbrev pub decreases-too_deep : goal.decreases-too_deep
decreases-too_deep l = 2 * l.limit

abbrev pub decreases-any_too_deep : goal.decreases-any_too_deep
decreases-any_too_deep l = 2 * l.limit + 1

abbrev pub decreases-rows_too_deep : goal.decreases-rows_too_deep
decreases-rows_too_deep l = 2 * l.limit + 1

abbrev pub decreases-branches_too_deep : goal.decreases-branches_too_deep
decreases-branches_too_deep l = 2 * l.limit + 1

abbrev pub invariant-any_too_deep-loop-s : goal.invariant-any_too_deep-loop-s
invariant-any_too_deep-loop-s l =
    nat_le (statements_depth l.macros (statements (map statement l.list))) l.limit ≡ nat_le (statements_depth l.macros (statements (map statement (drop l.s-index l.list)))) l.limit

abbrev pub invariant-rows_too_deep-loop-row : goal.invariant-rows_too_deep-loop-row
invariant-rows_too_deep-loop-row l =
    nat_le (labeled_depth l.macros (labeled (map labeled_pair l.list))) l.limit ≡ nat_le (labeled_depth l.macros (labeled (map labeled_pair (drop l.row-index l.list)))) l.limit

abbrev pub invariant-branches_too_deep-loop-b : goal.invariant-branches_too_deep-loop-b
invariant-branches_too_deep-loop-b l =
    nat_le (guarded_depth l.macros (guarded (map branch_parts l.list))) l.limit ≡ nat_le (guarded_depth l.macros (guarded (map branch_parts (drop l.b-index l.list)))) l.limit
