-- It has the name, or it hasn't.
use Rattle.std.proofs.Common.{◌≡◌, ◌<◌, length, Some, ap, sym, ◌∙◌, subst, set}
use Rattle.std.specs.Prelude.{slice_get}
use Rattle.pgo_base.specs.Data.{Data}
use Rattle.pgo_base.specs.Lookup.{Name, Vars, same_name}
use Rattle.pgo_base.specs.SameName.{same_name_back}
use Rattle.pgo_base.specs.View.{data_of, named_data}
use Rattle.pgo_base.specs.declared.value.Value.{Value}
use Rattle.pgo_places.proofs.OwnPuts.{own_at_place, own_put_here, own_put_not}
use Rattle.pgo_places.proofs.variables.renew_own.Goals as goal

pub returns-in_ok-value : goal.returns-in_ok-value
returns-in_ok-value c =
    let o : Vars = c.args.own.now in let n = c.args.place in let y = c.args.name.now in let p : Name × Data = named_data c.index-as_slice-place.result in
    let at : slice_get o n ≡ Some p =
    subst (λ (l : Vars). slice_get l n ≡ Some p) c.as_slice.ensures
    (own_at_place c.as_slice.result.now n c.index-as_slice-place.result (subst (λ (l : Vars). n < length l) (sym c.as_slice.ensures) c.requires)
    ∙ ap (λ x. Some (named_data x)) (sym c.index-as_slice-place.is)) in
    (c.replace.ensures p at).1 ∙ ap (λ (v : Value). set o n (p.0, data_of v)) c.in_ok-value.ensures
    ∙ sym (own_put_here n y (data_of c.args.value.now) o p at (same_name_back p.0 y ∙ ap (λ (x : Name × Value). same_name y x.0) c.index-as_slice-place.is ∙ sym c.if-is_bytes.ensures))

pub returns-else-is_bytes : goal.returns-else-is_bytes
returns-else-is_bytes c =
    let o : Vars = c.args.own.now in let n = c.args.place in let y = c.args.name.now in let p : Name × Data = named_data c.index-as_slice-place.result in
    let at : slice_get o n ≡ Some p =
    subst (λ (l : Vars). slice_get l n ≡ Some p) c.as_slice.ensures
    (own_at_place c.as_slice.result.now n c.index-as_slice-place.result (subst (λ (l : Vars). n < length l) (sym c.as_slice.ensures) c.requires)
    ∙ ap (λ x. Some (named_data x)) (sym c.index-as_slice-place.is)) in
    sym (own_put_not n y (data_of c.args.value.now) o p at (same_name_back p.0 y ∙ ap (λ (x : Name × Value). same_name y x.0) c.index-as_slice-place.is ∙ sym c.if-is_bytes.ensures))
