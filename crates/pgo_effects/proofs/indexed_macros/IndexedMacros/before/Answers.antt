use Rattle.std.proofs.Common.{rules, ◌≡◌, ◌<◌, ◌∙◌, Some, length, length-take, subst, ap, sym, arith}
use Rattle.pgo_base.specs.NameMaps.{found}
use Rattle.pgo_base.specs.LastPlace.{last_place}
use Rattle.pgo_syntax.specs.UnitNames.{macro_name}
use Rattle.pgo_base.proofs.LastPlaces.{last_kept}
use Rattle.pgo_effects.proofs.indexed_macros.IndexedMacros.before.Goals as goal

pub invariant_of-result : goal.invariant_of-result
invariant_of-result c = λ x i e.
    let list = c.self.inside.list.now in
    let place = c.args.place in
    let same : c.self.inside.places.value ≡ c.in_ok-places.places.value = search rules in
    subst (λ l. i < length l → last_place macro_name x l ≡ Some i) (sym c.first.ensures)
    (λ h. last_kept macro_name x list place i (c.self.invariant x i (ap (λ m. found m x) same ∙ e) (omega (arith, h, length-take place list))) (omega (arith, h, length-take place list)))
