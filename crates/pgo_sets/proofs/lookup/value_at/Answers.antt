use Rattle.std.proofs.Common.{◌<◌, length, ap, sym, ◌∙◌, arith}
use Rattle.std.proofs.lemmas.List.{length-map}
use Rattle.pgo_base.specs.PairsView.{all_pairs}
use Rattle.pgo_base.specs.View.{data_of, pair_of}
use Rattle.pgo_sets.specs.KeyPlace.{value_in}
use Rattle.pgo_base.proofs.ValuePlaces.{value_there}
use Rattle.pgo_sets.proofs.KeyPlaces.{at_place, no_place}
use Rattle.pgo_sets.proofs.lookup.value_at.Goals as goal

pub at-requires : goal.at-requires
at-requires c =
    let r = at_place (data_of c.args.key.now) c.args.function.now c.in-Some.i (sym c.key_place.ensures ∙ c.in-Some.is) in
    omega (arith, r.0, length-map (all_pairs c.pairs.result) pair_of, ap length c.pairs.ensures)

pub returns-in-Some : goal.returns-in-Some
returns-in-Some c =
    let ps = all_pairs c.pairs.result in
    let i = c.in-Some.i in
    let q = c.at.result.now in
    let r = at_place (data_of c.args.key.now) c.args.function.now i (sym c.key_place.ensures ∙ c.in-Some.is) in
    let b : i < length ps = omega (arith, r.0, length-map ps pair_of, ap length c.pairs.ensures) in
    value_there ps i q b c.at.ensures ∙ ap (value_in i) c.pairs.ensures ∙ sym r.1

pub returns-in-None : goal.returns-in-None
returns-in-None c = sym (no_place (data_of c.args.key.now) c.args.function.now (sym c.key_place.ensures ∙ c.in-None.is))
