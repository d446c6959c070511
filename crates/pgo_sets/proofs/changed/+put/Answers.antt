use Rattle.std.proofs.Common.{◌≡◌, length, map, arith, ap, sym, ◌∙◌}
use Rattle.std.specs.Prelude.{false, Some, None, option_map}
use Rattle.pgo_base.specs.Data.{boolean}
use Rattle.pgo_base.specs.View.{data_of}
use Rattle.pgo_model.specs.Operators.{function_of, put_at}
use Rattle.pgo_sets.specs.KeyPlace.{key_place, set_value}
use Rattle.pgo_sets.proofs.KeyPlaces.{at_place, set_again, length_set}
use Rattle.pgo_sets.proofs.PutLaws.{put_absent, put_present}
use Rattle.pgo_sets.proofs.changed.+put.Goals as goal

pub put_in-returns-in_default : goal.put_in-returns-in_default
put_in-returns-in_default t c =
    put_absent (data_of c.args.i.now) (map data_of c.args.rest.now) (data_of c.args.v) c.args.f (sym c.in_default.is ∙ c.key_place.ensures)

pub put_in-replace_at-requires : goal.put_in-replace_at-requires
put_in-replace_at-requires t c =
    let n = c.in-Some.place in
    let h : key_place (data_of c.args.i.now) c.args.f ≡ Some n = sym c.key_place.ensures ∙ c.in-Some.is in
    (at_place (data_of c.args.i.now) c.args.f n h).0

pub put_in-replace_at-requires-in-Some-2 : goal.put_in-replace_at-requires-in-Some-2
put_in-replace_at-requires-in-Some-2 t c =
    let n = c.in-Some.place in
    let h : key_place (data_of c.args.i.now) c.args.f ≡ Some n = sym c.key_place.ensures ∙ c.in-Some.is in
    omega (arith, (at_place (data_of c.args.i.now) c.args.f n h).0, ap length c.in_ok-without.ensures.after, length_set n (boolean false) c.args.f)

pub put_in-returns-in_ok-changed-in-Some-2 : goal.put_in-returns-in_ok-changed-in-Some-2
put_in-returns-in_ok-changed-in-Some-2 t c =
    let n = c.in-Some.place in
    let k = data_of c.args.i.now in
    let rest = map data_of c.args.rest.now in
    let v = data_of c.args.v in
    let w = data_of c.in-Some-2.w in
    let part = data_of c.in_ok-without.part in
    let h : Some n ≡ key_place k c.args.f = sym c.in-Some.is ∙ c.key_place.ensures in
    let b : c.in_ok-changed-in-Some-2.changed ≡ set_value n w c.args.f = c.in_ok-changed-in-Some-2.ensures.after ∙ ap (set_value n w) c.in_ok-without.ensures.after ∙ set_again n (boolean false) w c.args.f in
    let o : Some w ≡ put_at rest (λ part. Some v) (Some part) = ap (option_map data_of) (sym c.in-Some-2.is) ∙ c.in_ok-w.ensures in
    c.if_value.ensures ∙ ap function_of b ∙ put_present k rest v part c.args.f n (Some w) h c.in_ok-without.ensures.before o

pub put_in-returns-in-None : goal.put_in-returns-in-None
put_in-returns-in-None t c =
    let n = c.in-Some.place in
    let k = data_of c.args.i.now in
    let rest = map data_of c.args.rest.now in
    let v = data_of c.args.v in
    let part = data_of c.in_ok-without.part in
    let h : Some n ≡ key_place k c.args.f = sym c.in-Some.is ∙ c.key_place.ensures in
    let o : None ≡ put_at rest (λ part. Some v) (Some part) = ap (option_map data_of) (sym c.in-None.is) ∙ c.in_ok-w.ensures in
    put_present k rest v part c.args.f n None h c.in_ok-without.ensures.before o
