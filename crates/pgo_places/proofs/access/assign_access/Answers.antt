-- A resource is assigned what a name stands for.
use Rattle.std.proofs.Common.{sym, ap, ◌∙◌, subst, map, reverse}
use Rattle.pgo_base.specs.BindingsView.{named_view}
use Rattle.pgo_base.specs.View.{data_of}
use Rattle.pgo_sections.specs.BoundValues.{value_under}
use Rattle.pgo_code.specs.Steps.{Resource, Assign}
use Rattle.pgo_code.specs.See.{target_view}
use Rattle.pgo_places.specs.Flows.{StandsAt}
use Rattle.pgo_places.specs.PlaceView.{stand_view}
use Rattle.pgo_places.proofs.Standing.{assign_stands}
use Rattle.pgo_places.proofs.access.assign_access.Goals as goal

pub returns-in-Some : goal.returns-in-Some
returns-in-Some c = λ a k.
    let s = stand_view c.args.stand.now in
    subst (λ t. StandsAt a k (Assign t c.args.name.now) s c.access_to.result) (sym (ap target_view c.in-Resource.is))
    (subst (λ x. StandsAt a k (Assign (Resource c.in-Resource.r) c.args.name.now) s x) (sym c.access_to.ensures)
    (assign_stands a k s c.in-Resource.r c.args.name.now (data_of c.in-Some.field-0.now)
    (sym (c.in-Some.ensures ∙ ap (λ xs. value_under c.args.name.now (reverse (map named_view xs))) c.deref.ensures.value))))
