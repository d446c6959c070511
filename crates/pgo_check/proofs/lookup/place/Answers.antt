use Rattle.std.proofs.Common.{subst, ap, ◌∙◌}
use Rattle.pgo_model.specs.Steps.{place_in}
use Rattle.pgo_check.specs.Placed.{ArePlaces, ArePlacesIfAny}
use Rattle.pgo_check.proofs.lookup.place.Goals as goal

pub returns-in-Some : goal.returns-in-Some
returns-in-Some c =
    let places : ArePlaces c.args.s.now c.in-Some.places.now = subst (ArePlacesIfAny c.args.s.now) c.in-Some.is c.requires in
    c.copied.ensures ∙ c.get.ensures ∙ places c.args.name.now

pub returns-in-None : goal.returns-in-None
returns-in-None c = c.place_in.ensures.place ∙ ap (place_in c.args.name.now) c.as_slice.ensures
