use Rattle.std.proofs.Common.{arith}
use Rattle.pgo_labels.specs.YieldRule.{yield_rule}
use Rattle.pgo_labels.proofs.Walks.{walk_step}
use Rattle.pgo_labels.proofs.checker.yield_rule_in_mappings.Goals as goal

pub loop-m-preserved : goal.loop-m-preserved
loop-m-preserved c =
    walk_step (λ f. f.place) yield_rule c.args.list.now c.loop-m.m-index c.m-item.result c.loop-m.found c.in_ok-next.next _ _ (omega arith) c.m-item.is
    c.in_ok-next.ensures c.sooner-found.ensures c.loop-m.invariant
