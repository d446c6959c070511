use Rattle.std.proofs.Common.{◌≡◌, ◌+◌, length, get_or, ap, sym, ◌∙◌, arith}
use Rattle.std.specs.Vec.Iter.{into_iter_items}
use Rattle.pgo_eval.proofs.Arguments.{none_named, one_named, all_named}
use Rattle.pgo_eval.proofs.definitions.arguments.Goals as goal

pub loop-v-init : goal.loop-v-init
loop-v-init c = rw (c.new-list.ensures, c.into_iter-v-iterator.ensures.into_iter_gives.0) (none_named c.args.params.now c.args.args.items c.requires)

pub bounds-params-as_slice : goal.bounds-params-as_slice
bounds-params-as_slice c =
    let more : length (into_iter_items c.loop-v.v-iterator) ≡ 1 + length (into_iter_items c.next.new.self) = ap length c.in-Some.ensures.steps.0 ∙ (omega arith) in
    omega (arith, more, c.loop-v.invariant.count, ap length c.as_slice.ensures)

pub loop-v-preserved : goal.loop-v-preserved
loop-v-preserved c =
    let i = length c.as_slice.result.now in
    let count : i ≡ length c.loop-v.list = ap length c.as_slice.ensures in
    let name : c.in_ok-name.name ≡ get_or c.args.params.now i c.in_ok-name.name = c.in_ok-name.ensures ∙ c.index-params-as_slice.is ∙ ap (get_or c.args.params.now i) (sym c.in_ok-name.ensures) in
    one_named c.args.params.now c.args.args.items c.loop-v.list c.push.new.self (into_iter_items c.loop-v.v-iterator) (into_iter_items c.next.new.self) c.in-Some.v c.in_ok-name.name i count name c.in-Some.ensures.steps.0 c.in_ok-push.ensures c.loop-v.invariant

pub returns : goal.returns
returns c =
    let none : length (into_iter_items c.loop-v.v-iterator) ≡ 0 = omega (arith, c.in-None.ensures.steps.0) in
    all_named c.args.params.now c.args.args.items c.loop-v.list (into_iter_items c.loop-v.v-iterator) none c.loop-v.invariant
