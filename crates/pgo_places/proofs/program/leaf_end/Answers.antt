-- The section has come to its end.
use Rattle.std.proofs.Common.{sym, subst, rules}
use Rattle.pgo_workers.specs.Tried.{LeafTree}
use Rattle.pgo_places.specs.LeafEvents.{points_at, IsLeafEnd}
use Rattle.pgo_places.proofs.Readiness.{ready_end}
use Rattle.pgo_places.proofs.program.leaf_end.Goals as goal

pub unreachable-requires : goal.unreachable-requires
unreachable-requires c =
    let p = c.args.program.now in let q = c.next_event.new.place in
    let h = ready_end (points_at q) p q c.in_ok-next_event.field-0 (subst (λ (w : LeafTree). IsLeafEnd w) (sym c.in_ok-next_event.ensures.same) c.requires) c.in_ok-next_event.ensures.tells c.in_ok-next_event.ensures.ready in
    search (rules, h)
