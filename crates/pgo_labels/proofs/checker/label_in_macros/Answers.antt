use Rattle.std.proofs.Common.{arith}
use Rattle.pgo_labels.specs.LabelHere.{label_in_macro}
use Rattle.pgo_labels.proofs.Walks.{walk_step}
use Rattle.pgo_labels.proofs.checker.label_in_macros.Goals as goal

pub loop-m-preserved : goal.loop-m-preserved
loop-m-preserved c =
    walk_step (λ f. f.place) label_in_macro c.args.list.now c.loop-m.m-index c.m-item.result c.loop-m.found c.in_ok-next.next _ _ (omega arith) c.m-item.is
    c.in_ok-next.ensures c.sooner-found.ensures c.loop-m.invariant
