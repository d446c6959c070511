-- A resource is assigned the value that stands ready.
use Rattle.std.proofs.Common.{sym, ap, subst, option_map}
use Rattle.pgo_base.specs.View.{data_of}
use Rattle.pgo_code.specs.Steps.{Resource, Set}
use Rattle.pgo_code.specs.See.{target_view}
use Rattle.pgo_places.specs.Flows.{StandsAt}
use Rattle.pgo_places.specs.PlaceView.{stand_view}
use Rattle.pgo_places.proofs.Standing.{set_stands}
use Rattle.pgo_places.proofs.access.set_access.Goals as goal

pub returns-in-Some : goal.returns-in-Some
returns-in-Some c = λ a k e h.
    let s = stand_view c.args.stand.now in
    subst (λ t. StandsAt a k (Set t e) s c.access_to.result) (sym (ap target_view c.in-Resource.is))
    (subst (λ x. StandsAt a k (Set (Resource c.in-Resource.r) e) s x) (sym c.access_to.ensures)
    (set_stands a k s c.in-Resource.r e (data_of c.in-Some.field-0) (ap (option_map data_of) c.in-Some.is)))
