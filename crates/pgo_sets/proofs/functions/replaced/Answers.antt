use Rattle.std.proofs.Common.{◌≡◌, IfOk, List, length, map, ap, sym, ◌∙◌, subst, arith}
use Rattle.std.specs.Prelude.{Some}
use Rattle.pgo_base.specs.Data.{Data, keys}
use Rattle.pgo_base.specs.Sets.{IsSorted}
use Rattle.pgo_base.specs.View.{data_of, pair_of}
use Rattle.pgo_sets.specs.KeyPlace.{key_place, set_value}
use Rattle.pgo_sets.proofs.KeyPlaces.{at_place, no_place}
use Rattle.pgo_sets.proofs.Replacing.{not_replaced}
use Rattle.pgo_sets.proofs.functions.replaced.Goals as goal

pub returns-in_default-clause-pairs : goal.returns-in_default-clause-pairs
returns-in_default-clause-pairs c =
    let k = data_of c.args.key.now in
    let v = data_of c.args.value.now in
    let f = c.args.function.now in
    let P : List (Data × Data) → Type 0 = λ y. IfOk c.pairs_of.result (λ ps. map pair_of ps.items ≡ y) in
    subst P (sym (not_replaced k v f (no_place k f (sym c.key_place.ensures ∙ c.in_default.is)))) c.pairs_of.ensures.pairs

pub replace_at-requires : goal.replace_at-requires
replace_at-requires c =
    let h : key_place (data_of c.args.key.now) c.args.function.now ≡ Some c.in-Some.place = sym c.key_place.ensures ∙ c.in-Some.is in
    omega (arith, (at_place (data_of c.args.key.now) c.args.function.now c.in-Some.place h).0, ap length c.in_ok-other.ensures)

pub returns-clause-pairs : goal.returns-clause-pairs
returns-clause-pairs c =
    let k = data_of c.args.key.now in
    let n = c.in-Some.place in
    let f = c.args.function.now in
    let h : key_place k f ≡ Some n = sym c.key_place.ensures ∙ c.in-Some.is in
    c.in_ok-pairs.ensures.pairs ∙ c.in_ok-changed.ensures.after ∙ (λ i. set_value n (data_of (c.in_ok-v.ensures i)) (c.in_ok-other.ensures i)) ∙ sym ((at_place k f n h).2 (data_of c.args.value.now))

pub returns-clause-sorted : goal.returns-clause-sorted
returns-clause-sorted c = subst (λ ps. IsSorted (keys ps)) (sym c.in_ok-pairs.ensures.pairs) c.in_ok-pairs.ensures.sorted
