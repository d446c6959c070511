-- The access of the leaf.
use Rattle.std.proofs.Common.{sym, subst}
use Rattle.pgo_resource.specs.Nexts.{LeadsOn}
use Rattle.pgo_resource.specs.Picked.{attempt_words}
use Rattle.pgo_tries.specs.Sections.{along}
use Rattle.pgo_workers.specs.Tried.{LeafEnd, and_then, trying}
use Rattle.pgo_workers.specs.Walk.{Walk}
use Rattle.pgo_places.specs.LeafEvents.{Kept, LeafLeadsOn}
use Rattle.pgo_places.specs.PlaceWalk.{leaf_in, leaf_from, walk_in}
use Rattle.pgo_places.proofs.Walks.{later_kept, leads_behind, touch_leaf, on_ok_both}
use Rattle.pgo_places.proofs.program.operated_on.Goals as goal

pub operated-requires : goal.operated-requires
operated-requires g c =
    let p = c.args.program.now in let q = c.args.attempt.now in let first = attempt_words q.place.stand.picks in
    touch_leaf first (λ path. trying (λ path. leaf_from p q.place q.start (along 0 path first)) first q.left path) (leaf_in p q.place) c.requires

pub returns-clause-on : goal.returns-clause-on
returns-clause-on g c =
    let p = c.args.program.now in let q = c.args.attempt.now in let new = c.operated.new.place in let first = attempt_words q.place.stand.picks in
    let old = (g.R.Resource.shows c.args.content.now).current in let now = (g.R.Resource.shows c.operated.new.content).current in
    on_ok_both c.operated.result (LeafLeadsOn (leaf_in p q.place) (leaf_in p new) old now) (Kept q.place new)
    (LeadsOn (walk_in p q) (walk_in p (record q { place = new })) old now)
    (λ h k.
    subst (λ (e : LeafEnd → Walk). LeadsOn (walk_in p q) (and_then (leaf_in p new) e) old now) (sym (later_kept p q.place new q.start q.left k))
    (leads_behind first (λ path. trying (λ path. leaf_from p q.place q.start (along 0 path first)) first q.left path) (leaf_in p q.place) (leaf_in p new) old now h))
    c.operated.ensures.on c.operated.ensures.kept
