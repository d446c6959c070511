use Rattle.std.proofs.Common.{◌+◌, ◌*◌, ◌<◌, ◌≤◌, drop, length, arith, sym, ap, subst, ◌∙◌}
use Rattle.std.proofs.Math.Nat.{one-le-mul}
use Rattle.pgo_model.specs.FunctionSets.{choice_count}
use Rattle.pgo_model.specs.Operators.{most_members}
use Rattle.pgo_eval.specs.Choices.{sets_of}
use Rattle.pgo_eval.proofs.FewChoices.{counted, too_many, too_large}
use Rattle.pgo_eval.proofs.choice.is_product_few.Goals as goal

pub returns-then-n-gt-MOST_MEMBERS : goal.returns-then-n-gt-MOST_MEMBERS
returns-then-n-gt-MOST_MEMBERS c =
    let k = counted c.args.bound.now c.loop-b.b-index c.b-item.result c.loop-b.count _ c.loop-b-test.true c.b-item.is c.loop-b.invariant.full c.loop-b.invariant.all in
    too_large c.loop-b.count (length c.b-item.result.set) _ _ c.loop-b.invariant.some k.left (omega (arith, c.len-n.ensures)) k.all_is

pub returns-then-count-gt-MOST_MEMBERS : goal.returns-then-count-gt-MOST_MEMBERS
returns-then-count-gt-MOST_MEMBERS c =
    let k = counted c.args.bound.now c.loop-b.b-index c.b-item.result c.loop-b.count _ c.loop-b-test.true c.b-item.is c.loop-b.invariant.full c.loop-b.invariant.all in
    too_many c.loop-b.count (length c.b-item.result.set) _ _ k.left (subst (λ n. most_members < c.loop-b.count * n) c.len-n.ensures c.if-count-gt-MOST_MEMBERS.true) k.all_is

pub loop-b-preserved : goal.loop-b-preserved
loop-b-preserved c =
    let k = counted c.args.bound.now c.loop-b.b-index c.b-item.result c.loop-b.count _ c.loop-b-test.true c.b-item.is c.loop-b.invariant.full c.loop-b.invariant.all in
    record {
      some = one-le-mul c.loop-b.invariant.some (subst (λ n. 1 ≤ n) (sym c.len-n.ensures) k.some);
      few = c.if-count-gt-MOST_MEMBERS.false;
      full = k.full;
      all = k.all_is ∙ ap (λ n. (c.loop-b.count * n) * choice_count (sets_of (drop (c.loop-b.b-index + 1) c.args.bound.now))) (sym c.len-n.ensures);
    }
