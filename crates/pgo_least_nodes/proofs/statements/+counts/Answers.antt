use Rattle.std.proofs.Common.{◌≤◌, map, arith}
use Rattle.pgo_syntax.specs.Statement.{guarded, labeled, statements}
use Rattle.pgo_syntax.specs.StatementSize.{height, statements_height, labeled_height, guarded_height}
use Rattle.pgo_syntax.specs.StatementView.{branch_parts, labeled_pair, statement}
use Rattle.pgo_put_sizes.proofs.Nesting.{one_low, branch_low, labeled_low}
use Rattle.pgo_least_nodes.proofs.statements.+counts.Goals as goal

pub arms_counts-statement_counts-requires : goal.arms_counts-statement_counts-requires
arms_counts-statement_counts-requires t c =
    let low : height (statement c.index-list-at.result) ≤ statements_height (statements (map statement c.args.list.now)) = one_low _ _ _ (omega arith) c.index-list-at.is in
    (omega arith, tt)

pub branches_counts-statement_counts-requires : goal.branches_counts-statement_counts-requires
branches_counts-statement_counts-requires t c =
    let low : height (statement c.index-list-at.result.statement) ≤ guarded_height (guarded (map branch_parts c.args.list.now)) = branch_low _ _ _ (omega arith) c.index-list-at.is in
    (omega arith, tt)

pub row_counts-statement_counts-requires : goal.row_counts-statement_counts-requires
row_counts-statement_counts-requires t c =
    let low : height (statement c.index-list-at.result.statement) ≤ labeled_height (labeled (map labeled_pair c.args.list.now)) = labeled_low _ _ _ (omega arith) c.index-list-at.is in
    (omega arith, tt)
