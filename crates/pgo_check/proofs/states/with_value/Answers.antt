use Rattle.std.proofs.Common.{◌≡◌, ap, sym, ◌∙◌}
use Rattle.std.specs.Prelude.{Some}
use Rattle.pgo_base.specs.Data.{function, pairs}
use Rattle.pgo_base.specs.View.{data_of}
use Rattle.pgo_sets.specs.KeyPlace.{key_place}
use Rattle.pgo_sets.proofs.KeyPlaces.{at_place}
use Rattle.pgo_check.proofs.Stored.{part_absent, part_placed}
use Rattle.pgo_check.proofs.states.with_value.Goals as goal

pub returns-in_default : goal.returns-in_default
returns-in_default c = sym (part_absent c.args.f (data_of c.args.index.now) (data_of c.args.value) (sym c.key_place.ensures ∙ c.in_default.is))

pub replace_at-requires : goal.replace_at-requires
replace_at-requires c =
    let n = c.in-Some.place in
    let h : key_place (data_of c.args.index.now) c.args.f ≡ Some n = sym c.key_place.ensures ∙ c.in-Some.is in
    (at_place (data_of c.args.index.now) c.args.f n h).0

pub returns : goal.returns
returns c =
    let n = c.in-Some.place in
    let v = data_of c.args.value in
    let h : key_place (data_of c.args.index.now) c.args.f ≡ Some n = sym c.key_place.ensures ∙ c.in-Some.is in
    ap (λ ps. Some (function (pairs ps))) c.in_ok-changed.ensures.after ∙ sym (part_placed c.args.f (data_of c.args.index.now) v n h)
