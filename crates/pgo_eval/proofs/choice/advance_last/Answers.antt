use Rattle.std.proofs.Common.{◌≡◌, ◌-◌, [], ◌∷◌, ◌++◌, map, take, drop, arith, sym, ap, subst, ◌∙◌}
use Rattle.pgo_eval.specs.Choices.{over_bound, AreAt, left, chosen, restarted}
use Rattle.pgo_eval.proofs.Advance.{goes_on, starts_anew, at_now, at_restarted, over_restarted}
use Rattle.pgo_eval.proofs.choice.advance_last.Goals as goal

pub step-requires : goal.step-requires
step-requires c = at_now c.args.bound.now c.loop-i.bound c.loop-i.i (c.loop-i.i - 1) c.index-bound-i.result (omega arith) (omega arith) c.requires c.loop-i.invariant.now

pub returns-then-step : goal.returns-then-step
returns-then-step c =
    let s = c.step.ensures.goes_on c.if-step.true in
    let a = goes_on c.args.bound.now c.loop-i.bound c.loop-i.i (c.loop-i.i - 1) c.step.new.b c.index-bound-i.result (omega arith) (omega arith) c.requires c.loop-i.invariant.now c.loop-i.invariant.last s.1 s.0 in
    record { at = a.at; over = a.over; left = a.left }

pub loop-i-preserved : goal.loop-i-preserved
loop-i-preserved c =
    let s = c.step.ensures.starts_anew c.if-step.false in
    let a = starts_anew c.args.bound.now c.loop-i.bound c.loop-i.i (c.loop-i.i - 1) c.step.new.b c.index-bound-i.result (omega arith) (omega arith) c.requires c.loop-i.invariant.now c.loop-i.invariant.last s.1 s.0 in
    record { in_range = omega arith; now = a.0; last = a.1 }

pub returns : goal.returns
returns c =
    let old = c.args.bound.now in
    let z : c.loop-i.i ≡ 0 = omega arith in
    let e : c.loop-i.bound ≡ map restarted old = c.loop-i.invariant.now ∙ ap (λ j. take j old ++ map restarted (drop j old)) z in
    record { at = subst AreAt (sym e) (at_restarted old c.requires); over = ap over_bound e ∙ over_restarted old; left = subst (λ j. left (drop j old) ≡ chosen (drop j old) ∷ []) z c.loop-i.invariant.last }
