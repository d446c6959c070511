-- The components one after the other.
use Rattle.std.proofs.Common.{◌≤◌, ◌+◌, length, ap, sym, ◌∙◌, arith}
use Rattle.std.proofs.lemmas.List.{length-map}
use Rattle.pgo_base.specs.Lookup.{Vars}
use Rattle.pgo_base.specs.View.{data_of, named_data}
use Rattle.pgo_places.proofs.OwnPuts.{own_behind, own_behind_end, own_behind_step, own_put_length}
use Rattle.pgo_places.proofs.variables.put_own.Goals as goal

pub loop-place-preserved : goal.loop-place-preserved
loop-place-preserved c =
    let y = c.args.name.now in let v = data_of c.args.value.now in let n = c.loop-place.place in (
      ap (λ (o : Vars). own_behind (n + 1) y v o) c.in_ok-renew_own.ensures ∙ own_behind_step n (n + 1) y v c.loop-place.own (omega arith) ∙ c.loop-place.invariant.0,
      ap (λ (o : Vars). length o) c.in_ok-renew_own.ensures ∙ own_put_length n y v c.loop-place.own ∙ c.loop-place.invariant.1,
    )

pub returns : goal.returns
returns c =
    let past : length c.loop-place.own ≤ c.loop-place.place =
    (let e1 = c.loop-place.invariant.1 in let e2 = ap (λ (o : Vars). length o) c.as_slice-place-end.ensures in let e3 = length-map c.as_slice-place-end.result.now named_data in omega (arith, e1, e2, e3)) in
    sym (own_behind_end c.loop-place.place c.args.name.now (data_of c.args.value.now) c.loop-place.own past) ∙ c.loop-place.invariant.0
