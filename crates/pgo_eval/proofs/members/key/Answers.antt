use Rattle.std.proofs.Common.{◌≡◌, ◌≤◌, ◌++◌, length, map, arith, sym, ap, subst, ◌∙◌}
use Rattle.std.proofs.lemmas.List.{append-nil, drop_all}
use Rattle.std.proofs.lemmas.Bool.Decides.{nat_tests}
use Rattle.std.specs.Prelude.{Some, None, option_map, ◌==◌, false, IfOk}
use Rattle.pgo_base.specs.Lookup.{nth}
use Rattle.pgo_base.specs.View.{data_of}
use Rattle.pgo_model.specs.Val.{index_of}
use Rattle.pgo_eval.specs.Choices.{chosen}
use Rattle.pgo_eval.proofs.Keys.{one_key, several_keys, next_has, next_key}
use Rattle.pgo_eval.proofs.members.key.Goals as goal

pub returns-then-bound-eq1 : goal.returns-then-bound-eq1
returns-then-bound-eq1 c =
    let b = c.index-bound-0.result in
    let e : nth b.set b.at ≡ index_of (chosen c.args.bound.now) =
    subst (λ x. nth x.set x.at ≡ index_of (chosen c.args.bound.now)) (sym c.index-bound-0.is) (one_key c.args.bound.now b c.if-bound-eq1.true c.requires) in
    subst (λ x. IfOk c.copied.result (λ o. option_map data_of o ≡ x)) (c.member.ensures ∙ e) c.copied.ensures

pub returns-in-None : goal.returns-in-None
returns-in-None c =
    let f = next_has c.args.bound.now c.loop-b.b-index c.b-item.result c.loop-b-test.true c.b-item.is c.loop-b.invariant.at in
    let e : option_map data_of c.in_ok-v.field-0 ≡ Some f.member = c.in_ok-v.ensures ∙ c.member-in-loop-b.ensures ∙ f.is in
    let n : option_map data_of c.in_ok-v.field-0 ≡ None = ap (option_map data_of) c.in-None.is in
    absurd (cc)

pub loop-b-preserved : goal.loop-b-preserved
loop-b-preserved c =
    let e : Some (data_of c.in-Some.v) ≡ nth c.b-item.result.set c.b-item.result.at =
    ap (option_map data_of) (sym c.in-Some.is) ∙ c.in_ok-v.ensures ∙ c.member-in-loop-b.ensures in
    let k = next_key c.args.bound.now c.loop-b.b-index c.b-item.result c.in-Some.v c.loop-b.all.items c.push.new.self.items c.loop-b-test.true c.b-item.is c.loop-b.invariant.at e c.in_ok-push-in-Some.ensures.items c.loop-b.invariant.all in
    record { all = k.0; at = k.1 }

pub returns : goal.returns
returns c =
    let bs = c.args.bound.now in
    let full : false ≡ (length bs == 0) = c.if-is_empty.ensures in
    let some : 2 ≤ length bs = grind (arith, nat_tests) in
    let e : chosen bs ≡ map data_of c.loop-b.all.items =
    c.loop-b.invariant.all ∙ ap (λ xs. map data_of c.loop-b.all.items ++ chosen xs) (drop_all c.loop-b.b-index bs (omega arith)) ∙ append-nil (map data_of c.loop-b.all.items) in
    c.value_or_none.ensures (index_of (chosen bs)) (rw (several_keys bs some c.requires, e) c.sequence_of.ensures)
