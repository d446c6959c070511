use Rattle.std.proofs.Common.{◌≤◌, map, arith}
use Rattle.pgo_put_sizes.proofs.Nesting.{one_low, branch_low, labeled_low}
use Rattle.pgo_syntax.specs.Statement.{guarded, labeled, statements}
use Rattle.pgo_syntax.specs.StatementSize.{height, statements_height, labeled_height, guarded_height}
use Rattle.pgo_syntax.specs.StatementView.{branch_parts, labeled_pair, statement}
use Rattle.pgo_put_sizes.proofs.blocks.+leads.Goals as goal

pub any_lead-statement_leads-requires : goal.any_lead-statement_leads-requires
any_lead-statement_leads-requires t c =
    let low : height (statement c.t-item.result) ≤ statements_height (statements (map statement c.args.list.now)) = one_low _ _ _ (omega arith) c.t-item.is in
    (omega arith, tt)

pub branches_lead-statement_leads-requires : goal.branches_lead-statement_leads-requires
branches_lead-statement_leads-requires t c =
    let low : height (statement c.branch-item.result.statement) ≤ guarded_height (guarded (map branch_parts c.args.list.now)) = branch_low _ _ _ (omega arith) c.branch-item.is in
    (omega arith, tt)

pub row_leads-statement_leads-requires : goal.row_leads-statement_leads-requires
row_leads-statement_leads-requires t c =
    let low : height (statement c.one-item.result.statement) ≤ labeled_height (labeled (map labeled_pair c.args.list.now)) = labeled_low _ _ _ (omega arith) c.one-item.is in
    (omega arith, tt)
