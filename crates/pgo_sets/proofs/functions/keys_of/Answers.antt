use Rattle.std.proofs.Common.{◌≡◌, map, ap, sym, ◌∙◌, subst, take_all, arith}
use Rattle.pgo_base.specs.Data.{keys}
use Rattle.pgo_base.specs.PairsView.{all_pairs}
use Rattle.pgo_base.specs.Sets.{IsSorted}
use Rattle.pgo_base.specs.View.{data_of, key_of}
use Rattle.pgo_sets.proofs.Parts.{keys_copied}
use Rattle.pgo_sets.proofs.Searched.{keys_map}
use Rattle.pgo_sets.proofs.functions.keys_of.Goals as goal

pub loop-i-preserved : goal.loop-i-preserved
loop-i-preserved c = keys_copied c.loop-i.domain.items c.push.new.self.items (all_pairs c.in_order-pairs.result) c.loop-i.i c.at.result.now c.in_ok-copy.field-0 c.loop-i.invariant (omega (arith, c.loop-i-test.true, c.len.ensures)) c.at.ensures c.in_ok-push.ensures.items c.in_ok-copy.ensures

pub returns-clause-keys : goal.returns-clause-keys
returns-clause-keys c =
    let ps = all_pairs c.in_order-pairs.result in
    c.loop-i.invariant ∙ ap (map key_of) (take_all c.loop-i.i ps (omega (arith, c.loop-i-test.false, c.len.ensures))) ∙ sym (keys_map ps) ∙ ap keys c.in_order-pairs.ensures.pairs

pub returns-clause-sorted : goal.returns-clause-sorted
returns-clause-sorted c =
    let ps = all_pairs c.in_order-pairs.result in
    let e : map data_of c.loop-i.domain.items ≡ keys c.args.function.now =
    c.loop-i.invariant ∙ ap (map key_of) (take_all c.loop-i.i ps (omega (arith, c.loop-i-test.false, c.len.ensures))) ∙ sym (keys_map ps) ∙ ap keys c.in_order-pairs.ensures.pairs in
    subst IsSorted (sym e) c.in_order-pairs.ensures.sorted
