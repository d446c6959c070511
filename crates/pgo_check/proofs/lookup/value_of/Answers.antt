use Rattle.std.proofs.Common.{◌≡◌, ◌<◌, length, map, ap, sym, ◌∙◌, arith}
use Rattle.std.proofs.lemmas.List.{length-map}
use Rattle.std.specs.Prelude.{Some}
use Rattle.pgo_base.specs.Lookup.{Name, find}
use Rattle.pgo_base.specs.View.{data_of, named_data}
use Rattle.pgo_base.specs.declared.value.Value.{Value}
use Rattle.pgo_model.specs.Steps.{place_in}
use Rattle.pgo_model.proofs.Places.{place_none, placed_at}
use Rattle.pgo_check.proofs.Placing.{place_within}
use Rattle.pgo_check.proofs.lookup.value_of.Goals as goal

pub bounds-as_slice-i : goal.bounds-as_slice-i
bounds-as_slice-i c =
    let h : c.in-Some.i < length c.args.s.now = place_within c.args.name.now c.args.s.now c.in-Some.i (sym c.place.ensures ∙ c.in-Some.is) in
    omega (arith, h, length-map c.as_slice.result.now named_data, ap length c.as_slice.ensures)

pub offset_bounds-as_slice-i : goal.offset_bounds-as_slice-i
offset_bounds-as_slice-i c =
    let h : c.in-Some.i < length c.args.s.now = place_within c.args.name.now c.args.s.now c.in-Some.i (sym c.place.ensures ∙ c.in-Some.is) in
    let b : c.in-Some.i < length c.as_slice.result.now = omega (arith, h, length-map c.as_slice.result.now named_data, ap length c.as_slice.ensures) in
    omega (arith, b, c.as_slice.type_inv.1)

pub returns-in-Some : goal.returns-in-Some
returns-in-Some c =
    let x = c.args.name.now in
    let list = c.as_slice.result.now in
    let at : place_in x (map named_data list) ≡ Some c.in-Some.i = ap (place_in x) c.as_slice.ensures ∙ sym c.place.ensures ∙ c.in-Some.is in
    ap (λ (p : Name × Value). Some (data_of p.1)) (sym c.index-as_slice-i.is) ∙ sym (placed_at x list c.in-Some.i c.index-as_slice-i.result at c.index-as_slice-i.is).0 ∙ ap (find x) c.as_slice.ensures

pub returns-in-None : goal.returns-in-None
returns-in-None c = sym (place_none c.args.name.now c.args.s.now (sym c.place.ensures ∙ c.in-None.is))
