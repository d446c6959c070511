-- The next event of the leaf.
use Rattle.std.proofs.Common.{◌≡◌}
use Rattle.pgo_resource.specs.Nexts.{Tells}
use Rattle.pgo_places.specs.LeafEvents.{LeafTells, Kept, points_at}
use Rattle.pgo_places.specs.PlaceWalk.{leaf_in, walk_in}
use Rattle.pgo_places.proofs.Walks.{kept_walk, settled_tells, on_ok_both, if_ok_three}
use Rattle.pgo_places.proofs.program.event_of.Goals as goal

pub returns-clause-same : goal.returns-clause-same
returns-clause-same c =
    let p = c.args.program.now in let q = c.args.attempt.now in let new = c.next_event.new.place in
    on_ok_both c.next_event.result (Kept q.place new) (leaf_in p new ≡ leaf_in p q.place) (walk_in p (record q { place = new }) ≡ walk_in p q)
    (λ kept same. kept_walk p q.place new q.start q.left kept same) c.next_event.ensures.kept c.next_event.ensures.same

pub returns-clause-tells : goal.returns-clause-tells
returns-clause-tells c =
    let p = c.args.program.now in let q = c.args.attempt.now in let new = c.next_event.new.place in
    if_ok_three c.next_event.result (λ e. LeafTells (points_at new) (leaf_in p new) e) (Kept q.place new) (leaf_in p new ≡ leaf_in p q.place)
    (λ e. Tells (walk_in p (record q { place = new })) e)
    (λ e tells kept same. settled_tells p q.place new q.start q.left e tells kept same c.requires)
    c.next_event.ensures.tells c.next_event.ensures.kept c.next_event.ensures.same
