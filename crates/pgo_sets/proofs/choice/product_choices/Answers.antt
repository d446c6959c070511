use Rattle.std.proofs.Common.{map, sym}
use Rattle.pgo_sets.specs.Choices.{choice_of}
use Rattle.pgo_sets.proofs.Paired.{product_none, product_some, product_all, choices_push}
use Rattle.pgo_sets.proofs.choice.product_choices.Goals as goal

pub returns-in_default : goal.returns-in_default
returns-in_default c = sym (product_none c.args.factors.now (map choice_of c.loop-i.choices.items) c.loop-i.i c.index-factors-i.result c.loop-i.invariant c.loop-i-test.true c.index-factors-i.is (sym c.in_default.ensures))

pub loop-i-preserved : goal.loop-i-preserved
loop-i-preserved c =
    product_some c.args.factors.now (map choice_of c.loop-i.choices.items) _ c.loop-i.i c.index-factors-i.result c.in-Some.members.now c.loop-i.invariant c.loop-i-test.true c.index-factors-i.is (sym c.in-Some.ensures) (choices_push c.loop-i.choices.items c.push.new.self.items _ _ c.in_ok-push.ensures.items c.number-key.ensures)

pub returns : goal.returns
returns c = sym (product_all c.args.factors.now (map choice_of c.loop-i.choices.items) c.loop-i.i c.loop-i.invariant c.loop-i-test.false)
