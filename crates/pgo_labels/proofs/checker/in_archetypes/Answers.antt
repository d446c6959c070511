use Rattle.std.proofs.Common.{arith}
use Rattle.pgo_labels.specs.Rules.{in_archetype}
use Rattle.pgo_labels.proofs.Walks.{walk_step}
use Rattle.pgo_labels.proofs.checker.in_archetypes.Goals as goal

pub loop-a-preserved : goal.loop-a-preserved
loop-a-preserved c =
    walk_step (λ f. f.place) (in_archetype c.args.rule) c.args.list.now c.loop-a.a-index c.a-item.result c.loop-a.found c.in_ok-next.next _ _ (omega arith) c.a-item.is
    c.in_ok-next.ensures c.sooner-found.ensures c.loop-a.invariant
