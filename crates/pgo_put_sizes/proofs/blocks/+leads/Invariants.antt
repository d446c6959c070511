-- What leads so far and what is left are the whole; each call is about statements that nest less deep.
use Rattle.std.proofs.Common.{◌≡◌, ◌+◌, ◌*◌, map, drop}
use Rattle.pgo_put_sizes.specs.Leads as spec
use Rattle.pgo_syntax.specs.Statement.{guarded, labeled, statements}
use Rattle.pgo_syntax.specs.StatementSize.{height, statements_height, labeled_height, guarded_height}
use Rattle.pgo_syntax.specs.StatementView.{branch_parts, labeled_pair, statement}
use Rattle.pgo_put_sizes.proofs.blocks.+leads.Given as goal

abbrev pub decreases-statement_leads : goal.decreases-statement_leads
decreases-statement_leads l = 2 * height (statement l.t.now)

abbrev pub decreases-any_lead : goal.decreases-any_lead
decreases-any_lead l = 2 * statements_height (statements (map statement l.list.now)) + 1

abbrev pub decreases-branches_lead : goal.decreases-branches_lead
decreases-branches_lead l = 2 * guarded_height (guarded (map branch_parts l.list.now)) + 1

abbrev pub decreases-row_leads : goal.decreases-row_leads
decreases-row_leads l = 2 * labeled_height (labeled (map labeled_pair l.list.now)) + 1

abbrev pub invariant-any_lead-loop-t : goal.invariant-any_lead-loop-t
invariant-any_lead-loop-t l = spec.any_lead l.all (statements (map statement (drop l.t-index l.list))) ≡ spec.any_lead spec.nowhere (statements (map statement l.list))

abbrev pub invariant-branches_lead-loop-branch : goal.invariant-branches_lead-loop-branch
invariant-branches_lead-loop-branch l = spec.branches_lead l.all (guarded (map branch_parts (drop l.branch-index l.list))) ≡ spec.branches_lead l.initial.all (guarded (map branch_parts l.list))

abbrev pub invariant-row_leads-loop-one : goal.invariant-row_leads-loop-one
invariant-row_leads-loop-one l = spec.row_leads l.all (labeled (map labeled_pair (drop l.one-index l.list))) ≡ spec.row_leads spec.goes_on (labeled (map labeled_pair l.list))
