-- A resource that there is.
use Rattle.pgo_places.specs.LeafEvents.{points_at}
use Rattle.pgo_places.specs.PlaceWalk.{core_walk}
use Rattle.pgo_places.proofs.Moves.{touch_tells}
use Rattle.pgo_places.proofs.place.reached.Goals as goal

pub returns-then-resource-resources-clause-tells : goal.returns-then-resource-resources-clause-tells
returns-then-resource-resources-clause-tells c = λ a k xs t. touch_tells (points_at c.args.place.now) c.args.resources c.args.resource (core_walk a k xs c.args.place.now) t c.if-resource-resources.true
